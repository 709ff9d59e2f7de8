-- How a run of `awsign verify` goes: what was read, and what the output gained.
use Rattle.std.specs.Prelude.{◌≡◌, ◌⊎◌, ℕ, IsErrAnd, List, [], Option, Some, None, Result, Ok, Err, string_bytes}
use Rattle.std.specs.Global.{Vec}
use Rattle.smithy_core.specs.Moment.{Instant}
use Rattle.smithy_core.specs.Outside.{Gains, GainsProperPrefix, IsAllOf, IsLongerThan}
use Rattle.smithy_core.specs.declared.outside.read_all.ReadFault.{ReadFault}
use Rattle.smithy_core.specs.declared.outside.read_all.ReadFault.TheVariants as read
use Rattle.smithy_core.specs.declared.request.HttpRequest.{HttpRequest}
use Rattle.env_config.specs.Sections.{FileText}
use Rattle.awsign_run.specs.declared.status.Status.TheVariants.{CouldNotReadFile, Done, NoMemory, OutputFault}
use Rattle.awsign_words.specs.Words.{OptionValues, VerifyWanted}
use Rattle.awsign_verify.specs.Message.{HeadParts, head_parts, message_body, message_request}
use Rattle.awsign_verify.specs.Verify.{JudgesBy}
use Rattle.awsign_verify.specs.declared.run.ReceivedRequest.{ReceivedRequest}
use Rattle.awsign_verify.specs.declared.status.VerifyStatus.{VerifyStatus}
use Rattle.awsign_verify.specs.declared.status.VerifyStatus.TheVariants.{BadLine, Ended, InputFault, TooLarge}

-- ## What is read

-- the most bytes that are read: 64 MiB
abbrev pub most_message : ℕ
most_message = 67108864

-- the request of a method and a URL with headers, or the one that the bytes of the input spell
abbrev pub asked_request : VerifyWanted → Option (List ℕ × List ℕ) → List ℕ → Result HeadParts ℕ
asked_request verify_wanted (Some named) bytes = Ok (record { method = named.0; target = named.1; headers = verify_wanted.headers })
asked_request verify_wanted None bytes = message_request bytes

-- the bytes that are read of the input: none where the words name a request, and else all
abbrev pub ReadsAsMuch : Option (List ℕ × List ℕ) → Option (List ℕ) → List ℕ → Type 0
ReadsAsMuch (Some named) left bytes = bytes ≡ []
ReadsAsMuch None left bytes = IsAllOf left bytes

-- how a run ends whose input isn't read
abbrev pub read_verify_status : ReadFault → VerifyStatus
read_verify_status read.Failed = InputFault
read_verify_status read.TooLarge = TooLarge
read_verify_status read.NoMemory = Ended NoMemory

-- ## The run

-- a profile file couldn't be read, at a path that `unread` tells of, or memory ran out
abbrev pub IsFileFault : (List ℕ → Type 0) → VerifyStatus → Type 0
IsFileFault unread (Ended (CouldNotReadFile path)) = unread (string_bytes path)
IsFileFault unread (Ended NoMemory) = Unit {0}
IsFileFault unread status = ⊥

-- the input has a bad line, couldn't be read or is too large, or memory ran out
abbrev pub IsInputFault : VerifyWanted → Option (List ℕ) → VerifyStatus → Type 0
IsInputFault verify_wanted left (BadLine place) =
    (bytes : List ℕ) × ReadsAsMuch verify_wanted.named left bytes × (asked_request verify_wanted verify_wanted.named bytes ≡ Err place)
IsInputFault verify_wanted left InputFault = verify_wanted.named ≡ None
IsInputFault verify_wanted left TooLarge = (verify_wanted.named ≡ None) × IsLongerThan left most_message
IsInputFault verify_wanted left (Ended NoMemory) = Unit {0}
IsInputFault verify_wanted left status = ⊥

-- the request that these bytes spell was read of them, or their line at this place is bad; or memory ran out
abbrev pub ReceivesMessage : List ℕ → Result ReceivedRequest VerifyStatus → Type 0
ReceivesMessage bytes (Ok received) = (received.bytes.items ≡ bytes) × (message_request bytes ≡ Ok (head_parts received.request))
ReceivesMessage bytes (Err (BadLine place)) = message_request bytes ≡ Err place
ReceivesMessage bytes (Err (Ended NoMemory)) = Unit {0}
ReceivesMessage bytes (Err status) = ⊥

-- the request that is asked about was received, or why it wasn't
abbrev pub ReceivesAsked : VerifyWanted → Option (List ℕ) → Result ReceivedRequest VerifyStatus → Type 0
ReceivesAsked verify_wanted left (Ok received) =
    ReadsAsMuch verify_wanted.named left received.bytes.items
    × (asked_request verify_wanted verify_wanted.named received.bytes.items ≡ Ok (head_parts received.request))
ReceivesAsked verify_wanted left (Err status) = IsInputFault verify_wanted left status

-- all of a text was written, or a part of it where the output failed or memory ran out
abbrev pub WritesText : List ℕ → VerifyStatus → Option (List ℕ) → Option (List ℕ) → Type 0
WritesText text (Ended Done) before now = Gains before now text
WritesText text (Ended OutputFault) before now = GainsProperPrefix before now text
WritesText text status before now = (status ≡ Ended NoMemory) × GainsProperPrefix before now text

module _ (moment : Instant → Type 0) (env : List (List ℕ × List ℕ)) (gave : List FileText → Type 0) (unread : List ℕ → Type 0) where
  -- what is found of a request with this body, under texts of profile files that `gave` tells of, or why these aren't there
  abbrev pub JudgesRequest : OptionValues → HttpRequest → List ℕ → Result (Vec ℕ) VerifyStatus → Type 0
  JudgesRequest options request body result =
      ((files : List FileText) × gave files × JudgesBy moment options env files request body result) ⊎ IsErrAnd result (IsFileFault unread)

  -- what is found of the request that is asked about, or why it isn't there
  abbrev pub JudgesInput : VerifyWanted → Option (List ℕ) → Result (Vec ℕ) VerifyStatus → Type 0
  JudgesInput verify_wanted left result =
      ((bytes : List ℕ) × (request : HttpRequest) × ReadsAsMuch verify_wanted.named left bytes
      × (asked_request verify_wanted verify_wanted.named bytes ≡ Ok (head_parts request))
      × JudgesRequest verify_wanted.options request (message_body bytes) result)
      ⊎ IsErrAnd result (IsInputFault verify_wanted left)

  -- what the output gained: who signed, or a part of that where the output failed or memory ran out; and nothing where it isn't printed
  abbrev pub RanVerify : VerifyWanted → Option (List ℕ) → VerifyStatus → Option (List ℕ) → Option (List ℕ) → Type 0
  RanVerify verify_wanted left (Ended Done) before now = (text : Vec ℕ) × JudgesInput verify_wanted left (Ok text) × Gains before now text.items
  RanVerify verify_wanted left (Ended OutputFault) before now = (text : Vec ℕ) × JudgesInput verify_wanted left (Ok text) × GainsProperPrefix before now text.items
  RanVerify verify_wanted left status before now =
      (JudgesInput verify_wanted left (Err status) × (now ≡ before))
      ⊎ ((status ≡ Ended NoMemory) × ((text : Vec ℕ) × JudgesInput verify_wanted left (Ok text) × GainsProperPrefix before now text.items))
