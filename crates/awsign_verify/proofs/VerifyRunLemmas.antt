-- A run of `awsign verify`.
use Rattle.std.proofs.Common.{◌≡◌, ℕ, inl, inr, List, Option, None, refl}
use Rattle.std.specs.Prelude.{Result, Ok, Err}
use Rattle.std.specs.Global.{Vec}
use Rattle.smithy_core.specs.Moment.{Instant}
use Rattle.smithy_core.specs.Outside.{IsLongerThan}
use Rattle.smithy_core.specs.declared.outside.read_all.ReadFault.{ReadFault}
use Rattle.smithy_core.specs.declared.outside.read_all.ReadFault.TheVariants as read
use Rattle.smithy_core.specs.declared.request.HttpRequest.{HttpRequest}
use Rattle.env_config.specs.Sections.{FileText}
use Rattle.env_config.specs.declared.load_fault.EnvConfigFileLoadError.{EnvConfigFileLoadError}
use Rattle.env_config.specs.declared.load_fault.EnvConfigFileLoadError.TheVariants as load
use Rattle.awsign_run.specs.Chosen.{SignRefusal, SignsFor}
use Rattle.awsign_run.specs.Run.{LoadsAsked}
use Rattle.awsign_run.specs.Status.{load_status}
use Rattle.awsign_run.specs.declared.status.Status.TheVariants.{Done, NoMemory, OutputFault}
use Rattle.awsign_words.specs.Words.{OptionValues, VerifyWanted}
use Rattle.awsign_verify.specs.Message.{message_body}
use Rattle.awsign_verify.specs.Verify.{JudgesFor, verify_signer}
use Rattle.awsign_verify.specs.VerifyRun.{IsFileFault, IsInputFault, JudgesInput, JudgesRequest, RanVerify, WritesText, most_message, read_verify_status}
use Rattle.awsign_verify.specs.declared.status.VerifyStatus.{VerifyStatus}
use Rattle.awsign_verify.specs.declared.status.VerifyStatus.TheVariants.{Ended, TooLarge}

-- how a run ends that wrote all, or whose output failed
abbrev IsOfOutput : VerifyStatus → Type 0
IsOfOutput (Ended Done) = Unit {0}
IsOfOutput (Ended OutputFault) = Unit {0}
IsOfOutput status = ⊥

-- profile files that aren't loaded
pub files_lack : (gave : List FileText → Type 0) (unread : List ℕ → Type 0) (name : List ℕ) (error : EnvConfigFileLoadError) → LoadsAsked gave unread name (Err error)
    → IsFileFault unread (Ended (load_status error))
files_lack gave unread name (load.CouldNotReadFile fault) is = is
files_lack gave unread name (load.ParseError error) is = elim is [ ]
files_lack gave unread name load.NoMemory is = tt

-- an input that isn't read
pub input_lacks : (verify_wanted : VerifyWanted) (left : Option (List ℕ)) (fault : ReadFault) → verify_wanted.named ≡ None
    → (fault ≡ read.TooLarge → IsLongerThan left most_message) → IsInputFault verify_wanted left (read_verify_status fault)
input_lacks verify_wanted left read.Failed none longer = none
input_lacks verify_wanted left read.TooLarge none longer = (none, longer refl)
input_lacks verify_wanted left read.NoMemory none longer = tt

-- what is found of a request is no end of an output
unended_for : (options : OptionValues) (who : Result SignsFor SignRefusal) (request : HttpRequest) (body : List ℕ) (at : Instant) (status : VerifyStatus)
    → IsOfOutput status → JudgesFor options who request body at (Err status) → ⊥
unended_for options (Ok signer) request body at (Ended Done) ends judges = judges
unended_for options (Ok signer) request body at (Ended OutputFault) ends judges = judges
unended_for options (Ok signer) request body at status ends judges = ends
unended_for options (Err refusal) request body at (Ended Done) ends judges = judges
unended_for options (Err refusal) request body at (Ended OutputFault) ends judges = judges
unended_for options (Err refusal) request body at status ends judges = ends

unended_file : (unread : List ℕ → Type 0) (status : VerifyStatus) → IsOfOutput status → IsFileFault unread status → ⊥
unended_file unread (Ended Done) ends is = is
unended_file unread (Ended OutputFault) ends is = is
unended_file unread status ends is = ends

unended_input : (verify_wanted : VerifyWanted) (left : Option (List ℕ)) (status : VerifyStatus) → IsOfOutput status → IsInputFault verify_wanted left status → ⊥
unended_input verify_wanted left (Ended Done) ends is = is
unended_input verify_wanted left (Ended OutputFault) ends is = is
unended_input verify_wanted left status ends is = ends

module _ (moment : Instant → Type 0) (env : List (List ℕ × List ℕ)) (gave : List FileText → Type 0) (unread : List ℕ → Type 0) (verify_wanted : VerifyWanted) (left : Option (List ℕ)) where
  -- a text was written
  pub text_written : (text : Vec ℕ) (status : VerifyStatus) (before now : Option (List ℕ)) → JudgesInput moment env gave unread verify_wanted left (Ok text)
      → WritesText text.items status before now → RanVerify moment env gave unread verify_wanted left status before now
  text_written text (Ended Done) before now judges writes = (text, judges, writes)
  text_written text (Ended OutputFault) before now judges writes = (text, judges, writes)
  text_written text status before now judges writes = inr (writes.0, (text, judges, writes.1))

  unended_request : (options : OptionValues) (request : HttpRequest) (body : List ℕ) (status : VerifyStatus) → IsOfOutput status
      → JudgesRequest moment env gave unread options request body (Err status) → ⊥
  unended_request options request body status ends (inl judged) =
      unended_for options (verify_signer options env judged.0 request) request body judged.2.0 status ends judged.2.2
  unended_request options request body status ends (inr file) = unended_file unread status ends file

  unended : (status : VerifyStatus) → IsOfOutput status → JudgesInput moment env gave unread verify_wanted left (Err status) → ⊥
  unended status ends (inl judged) = unended_request verify_wanted.options judged.1 (message_body judged.0) status ends judged.4
  unended status ends (inr input) = unended_input verify_wanted left status ends input

  -- nothing was printed
  pub text_unwritten : (status : VerifyStatus) (now : Option (List ℕ)) → JudgesInput moment env gave unread verify_wanted left (Err status)
      → RanVerify moment env gave unread verify_wanted left status now now
  text_unwritten (Ended Done) now judges = absurd (unended (Ended Done) tt judges)
  text_unwritten (Ended OutputFault) now judges = absurd (unended (Ended OutputFault) tt judges)
  text_unwritten status now judges = inl (judges, refl)

  -- and no output failed
  pub unfailed : (status : VerifyStatus) → JudgesInput moment env gave unread verify_wanted left (Err status) → status ≡ Ended OutputFault → ⊥
  unfailed status judges is = unended (Ended OutputFault) tt (rw is at judges)
