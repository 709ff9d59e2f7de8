-- What is sent, or why there is none.
use Rattle.std.proofs.Common.{◌≡◌, ℕ, Bool, true, false, inl, inr, List, Option, Some, None, codes, refl, ap, subst, ◌∙◌}
use Rattle.std.specs.Prelude.{IsTrue, Result, Ok, Err, string_bytes}
use Rattle.smithy_core.specs.Civil.{is_in_years}
use Rattle.smithy_core.specs.Moment.{Instant}
use Rattle.smithy_core.specs.TextPairs.{last_value}
use Rattle.smithy_http.specs.Target.{Target, target_of}
use Rattle.sigv4.specs.ChunkTold.{signs_over}
use Rattle.sigv4.specs.Host.{host_text}
use Rattle.sigv4.specs.Request.{Case}
use Rattle.sigv4.specs.Signed.{signed_headers, signed_target}
use Rattle.sigv4.specs.declared.error.SigningError.{SigningError}
use Rattle.sigv4.specs.declared.error.SigningError.TheVariants.{MomentOutOfRange}
use Rattle.aws_chunked.specs.Announcement.{announced_payload}
use Rattle.aws_chunked.specs.declared.announcement.AnnounceFault.TheVariants as announce
use Rattle.awsign_words.specs.Words.{SignWanted, sign_wanted}
use Rattle.awsign_run.specs.Chosen.{IsFaultOf, SignRefusal, SignsFor, refusal_of, who_signs}
use Rattle.awsign_text.specs.Forms.{text_in_form}
use Rattle.awsign_run.specs.Signing.{IsPrinted, SignsAsked, SignsPrinted, asked_case, asked_form, asked_refusal}
use Rattle.awsign_run.specs.Status.{fault_status}
use Rattle.awsign_run.specs.declared.fault.Fault.{Fault}
use Rattle.awsign_run.specs.declared.fault.Fault.TheVariants.{NoMemory as FaultNoMemory}
use Rattle.awsign_run.specs.declared.signing.SignedRequest.{SignedRequest}
use Rattle.awsign_run.specs.declared.status.Status.TheVariants.{Done, BadWord, CouldNotReadFile, DataFault, Refused, OutputFault, NoMemory}
use Rattle.awsign_chunk.specs.Sent.{AnnouncesBody, IsAnnouncedAs, IsUploadBehind, IsUploadOf, MakesSent, MakesSentFor, announced_trailers, announced_wanted, sent_case, signs_chunks}
use Rattle.awsign_chunk.specs.declared.sent.Announced.{Announced}
use Rattle.awsign_chunk.specs.declared.sent.ChunkedUpload.{ChunkedUpload}
use Rattle.awsign_chunk.specs.declared.status.ChunkStatus.{ChunkStatus}
use Rattle.awsign_chunk.specs.declared.status.ChunkStatus.TheVariants.{DataChanged, DataTooLong, Ended, FileFault, Unannounced, UnfitTrailer}

-- what is signed is signed in the years 0 to 9999
pub signed_in_years : (c : Case) → asked_refusal c ≡ None → IsTrue (is_in_years c.at)
signed_in_years c none = by (is_in_years c.at) refl
  where
    by : (years : Bool) → is_in_years c.at ≡ years → is_in_years c.at ≡ true
    by true is = is
    by false late = absurd (let no : ◌≡◌ {A = Option SigningError} (Some (MomentOutOfRange c.at)) None = rw late at none in cc)

-- a signed request, as it is printed before this file
printed_before : (asks : SignWanted) (case : Target → Case) (signed : SignedRequest) (file : Option (List ℕ)) (text : List ℕ) → SignsAsked asks case (Ok signed) → IsPrinted asks signed file text
    → text ≡ text_in_form (asked_form asks) asks.method (signed_target (case (target_of signed.uri)) asks.url) (signed_headers (case (target_of signed.uri))) (host_text (target_of signed.uri)) file
printed_before asks case signed file text signs printed = rw (← signs.2, ← signs.3, ← signs.4) printed

module _ (wanted : SignWanted) (n : ℕ) (signer : SignsFor) (at : Instant) where
  -- a body that isn't announced isn't sent
  pub not_sent : (status : ChunkStatus) → AnnouncesBody wanted n (announced_trailers wanted) (Err status) → MakesSent wanted n signer at (Err status)
  not_sent (UnfitTrailer error) is = is
  not_sent (Unannounced fault) is = is
  not_sent (Ended NoMemory) is = tt
  not_sent (Ended Done) is = absurd is
  not_sent (Ended (BadWord place)) is = absurd is
  not_sent (Ended (CouldNotReadFile path)) is = absurd is
  not_sent (Ended DataFault) is = absurd is
  not_sent (Ended (Refused fault)) is = absurd is
  not_sent (Ended OutputFault) is = absurd is
  not_sent DataTooLong is = absurd is
  not_sent DataChanged is = absurd is
  not_sent FileFault is = absurd is

  module _ (announced : Announced) (is : IsAnnouncedAs wanted n (announced_trailers wanted) announced) where
    -- the request is refused
    pub request_refused : (fault : Fault) → SignsAsked (sign_wanted announced.asked) (asked_case (sign_wanted announced.asked) signer (string_bytes announced.payload) at) (Err fault)
        → MakesSent wanted n signer at (Err (Ended (fault_status fault)))
    request_refused fault refused =
        by fault
        (subst (λ (text : List ℕ). Refuses (announced_wanted wanted n (announced_trailers wanted)) text fault) is.payload
        (subst (λ (w : SignWanted). Refuses w (string_bytes announced.payload) fault) is.asked refused))
      where
        Refuses : SignWanted → List ℕ → Fault → Type 0
        Refuses w text why = SignsPrinted w (asked_case w signer text at) (Err why)

        by : (why : Fault) → Refuses (announced_wanted wanted n (announced_trailers wanted)) (announced_payload (signs_chunks wanted.options) (announced_trailers wanted)) why
            → MakesSent wanted n signer at (Err (Ended (fault_status why)))
        by FaultNoMemory refuses = tt
        by why refuses = (is.fit, refuses)

    -- the request is signed, and its body is to go on from its signature
    pub request_sent : (signed : SignedRequest) (upload : ChunkedUpload)
        → SignsAsked (sign_wanted announced.asked) (asked_case (sign_wanted announced.asked) signer (string_bytes announced.payload) at) (Ok signed)
        → IsUploadBehind (sign_wanted announced.asked) signed announced.options signer n at upload → MakesSent wanted n signer at (Ok upload)
    request_sent signed upload signs behind = (signed.uri, made)
      where
        Sends : SignWanted → List ℕ → Type 0
        Sends w text =
            SignsAsked w (asked_case w signer text at) (Ok signed) × IsUploadBehind w signed announced.options signer n at upload

        sent : Sends (announced_wanted wanted n (announced_trailers wanted)) (announced_payload (signs_chunks wanted.options) (announced_trailers wanted))
        sent =
            subst (λ (text : List ℕ). Sends (announced_wanted wanted n (announced_trailers wanted)) text) is.payload
            (subst (λ (w : SignWanted). Sends w (string_bytes announced.payload)) is.asked (signs, behind))

        made : IsUploadOf wanted n signer at signed.uri upload
        made = record {
          spelled = sent.0.0;
          fit = is.fit;
          taken = sent.0.1;
          head = printed_before (announced_wanted wanted n (announced_trailers wanted)) (sent_case wanted n (announced_trailers wanted) signer at) signed
              (last_value wanted.options (codes "--out")) upload.head.items sent.0 sent.1.head;
          long = sent.1.long;
          options = sent.1.options ∙ is.options;
          is_signed = sent.1.is_signed;
          trailers = sent.1.trailers;
          over = sent.1.over ∙ ap (λ (before : List ℕ). signs_over before (who_signs signer) at) sent.0.5;
          sum = sent.1.sum;
        }

module _ (wanted : SignWanted) (n : ℕ) (at : Instant) where
  -- memory may always run out
  out_of_memory : (planned : Result SignsFor SignRefusal) → MakesSentFor wanted n planned at (Err (Ended NoMemory))
  out_of_memory (Ok signer) = tt
  out_of_memory (Err refusal) = tt

  -- why nobody is chosen
  refused : (fault : Fault) → MakesSentFor wanted n (Err (refusal_of fault)) at (Err (Ended (fault_status fault)))
  refused FaultNoMemory = tt
  refused fault = refl

  -- nobody is chosen
  pub nobody_sends : (planned : Result SignsFor SignRefusal) (fault : Fault) → IsFaultOf planned fault → MakesSentFor wanted n planned at (Err (Ended (fault_status fault)))
  nobody_sends planned fault (inl is) = rw is (refused fault)
  nobody_sends planned fault (inr is) = rw is (out_of_memory planned)
