-- How a chain of signed messages is read, and what the calls of a receiver tell of a stream.
use Rattle.std.proofs.Common.{◌≡◌, ℕ, List, [], ◌∷◌, ◌++◌, length, All, if◌then◌else◌, Some, None, Result, Ok, Err, refl, ap, sym, subst, ◌∙◌, append-nil}
use Rattle.std.specs.List.{AllByRecursion, concat}
use Rattle.std.proofs.lemmas.List.{append_cancel_left}
use Rattle.std.proofs.lemmas.List.Elements.{recursion_from_All}
use Rattle.smithy_core.specs.Message.{Parts}
use Rattle.smithy_core.specs.Moment.{Instant}
use Rattle.smithy_core.specs.declared.outside.frame_source.FrameSource as FrameSource
use Rattle.smithy_core.specs.declared.raw_message.RawMessage.TheVariants.{Decoded, Invalid}
use Rattle.smithy_core.specs.declared.sdk_error.SdkError.TheVariants.{ConstructionFailure, DispatchFailure, NoMemory, ResponseError, ServiceError}
use Rattle.eventstream.specs.Error.{error_kind}
use Rattle.eventstream.specs.Frame.{frame, unframed}
use Rattle.eventstream.specs.Key.{Signer}
use Rattle.eventstream.specs.Laws.{IsProper, floored_message}
use Rattle.eventstream.specs.Link.{chain, link_message, link_signature}
use Rattle.eventstream.specs.Read.{read}
use Rattle.eventstream.specs.Reading.{Begin, First, Read, fault, leftover, nothing, reading}
use Rattle.eventstream.specs.declared.error.Error.{Error}
use Rattle.eventstream.proofs.FrameLemmas.{frame_again}
use Rattle.eventstream.proofs.ReadingLemmas.{begin_read, frame_read, nothing_read}
use Rattle.eventstream.proofs.LinkLemmas.{link_floored, link_payload, link_proper}
use Rattle.event_io.specs.Drain.{BeginsWith, IsCauseToStop, drain_stop}
use Rattle.event_io.specs.Frames.{frames_data, idle_count}
use Rattle.event_io.specs.Laws.{Call, HoldFirst, IsChained, EndsReading, ReadsChain, TakeEach, Tell, messages_of}
use Rattle.event_io.specs.Receiver.{EndsAs, IsReadOut, Rest, rest_of, taken_bytes, terminated, terminates, unread, untold}
use Rattle.event_io.specs.ResponseFault.{ReceiveError}
use Rattle.event_io.specs.declared.drain.Drained.{Drained}
use Rattle.event_io.specs.declared.drain.Drained.TheVariants as drained
use Rattle.event_io.specs.declared.receiver.Receiver.{Receiver}
use Rattle.event_io.specs.declared.response_fault.ResponseFault.TheVariants.{Frame, UnexpectedEndOfStream, Unmarshall, Preprocessor}
use Rattle.event_io.proofs.DrainLemmas.{reads_then}
use Rattle.event_io.proofs.ReceiverLemmas.{takes_more, takes_none}

-- ## A chain

-- a signed message is read, and then what follows it
link_read : (signer : Signer) (signature bytes : List ℕ) (t : Instant) (more : List ℕ) (messages : List Parts) → unframed (link_message signer signature bytes t) ≡ None
    → reading more ≡ record { messages = messages; end = nothing }
    → reading (frame (link_message signer signature bytes t) ++ more) ≡ record { messages = link_message signer signature bytes t ∷ messages; end = nothing }
link_read signer signature bytes t more messages none others =
    frame_read (link_message signer signature bytes t) more (link_proper signer signature bytes t) none
    ∙ rw (link_floored signer signature bytes t, others) refl

-- the frame of an event is read as the event
event_read : (event : Parts) → IsProper event → unframed event ≡ None → read (frame event) ≡ Ok (floored_message event, length (frame event))
event_read event proper none = ap read (sym (append-nil (frame event))) ∙ frame_again event [] proper none

chain_reads : (signer : Signer) (events : List Parts) (moments : List Instant) (signature : List ℕ) → AllByRecursion IsProper events
    → IsChained signer events moments signature → ReadsChain signer events moments signature
chain_reads signer [] [] signature proper chained = absurd chained
chain_reads signer [] (t ∷ u ∷ ts) signature proper chained = absurd chained
chain_reads signer [] (t ∷ []) signature proper chained = record {
  messages = link_message signer signature [] t ∷ [];
  frames = refl;
  carried = link_payload signer signature [] t;
  joined = link_read signer signature [] t [] [] chained nothing_read;
}
chain_reads signer (event ∷ events) [] signature proper chained = absurd chained
chain_reads signer (event ∷ events) (t ∷ ts) signature proper chained =
    let message = link_message signer signature (frame event) t in
    let others = chain_reads signer events ts (link_signature signer signature (frame event) t) proper.1 chained.2 in
    let payload : message.payload ≡ frame event = link_payload signer signature (frame event) t in
    record {
      messages = message ∷ others.messages;
      frames = ap (λ (frames : List (List ℕ)). frame message ∷ frames) others.frames;
      carried = (payload, rw payload (event_read event proper.0 chained.0), others.carried);
      joined = link_read signer signature (frame event) t (concat (chain signer events ts (link_signature signer signature (frame event) t))) others.messages chained.1 others.joined;
    }

pub chain_read : (signer : Signer) (events : List Parts) (moments : List Instant) (signature : List ℕ) → All IsProper events
    → IsChained signer events moments signature → ReadsChain signer events moments signature
chain_read signer events moments signature proper chained = chain_reads signer events moments signature (recursion_from_All IsProper events proper) chained

-- ## What calls tell

-- what the rest is read as, where the source tells what it has left
abbrev still_read : Rest → Read
still_read (unread bytes) = reading bytes
still_read rest = record { messages = []; end = nothing }

abbrev IsTold : Rest → Type 0
IsTold untold = ⊥
IsTold rest = Unit {0}

begins_reading : (before after : Rest) (messages : List Parts) → IsTold before → BeginsWith before messages after
    → (still_read before ≡ record { messages = messages ++ (still_read after).messages; end = (still_read after).end }) × IsTold after
begins_reading terminated after messages told first = rw (first.0, first.1) (refl, tt)
begins_reading untold after messages told first = absurd told
begins_reading (unread bytes) terminated messages told first = absurd first
begins_reading (unread bytes) untold messages told first = absurd first
begins_reading (unread bytes) (unread left) messages told first = (begin_read messages bytes left first, tt)

ends_reading_as : (after : Rest) (end : First) → IsTold after → EndsAs after end → still_read after ≡ record { messages = []; end = end }
ends_reading_as terminated end told is = absurd is
ends_reading_as untold end told is = absurd told
ends_reading_as (unread bytes) end told is = is

is_nothing : (after : Rest) → IsTold after → IsReadOut after → still_read after ≡ record { messages = []; end = nothing }
is_nothing terminated told out = refl
is_nothing untold told out = absurd told
is_nothing (unread bytes) told out = ap reading out ∙ nothing_read

end_is : (read : Read) (end : First) → read ≡ record { messages = []; end = end } → (read.messages ≡ []) × (read.end ≡ end)
end_is read end is = (ap (λ (r : Read). r.messages) is, ap (λ (r : Read). r.end) is)

module _ {F U : Type 0} (source : FrameSource.Ghosts F) where
  end_told : (after : Rest) (idle : ℕ) (old new : Receiver F U) (result : Result Drained (ReceiveError Error)) → IsTold after → IsCauseToStop source after idle old new result
      → EndsReading (drain_stop result) (still_read after).messages (still_read after).end
      × (still_read (if terminates result then terminated else after) ≡ record { messages = (still_read after).messages; end = if terminates result then nothing else (still_read after).end })
      × IsTold (if terminates result then terminated else after)
  end_told after idle old new (Ok drained.Enough) told cause = (tt, refl, told)
  end_told after idle old new (Ok drained.End) told cause = (end_is (still_read after) nothing (is_nothing after told cause), refl, told)
  end_told after idle old new (Ok drained.NotYet) told cause = (tt, refl, told)
  end_told after idle old new (Ok drained.OutOfTurns) told cause = (tt, refl, told)
  end_told after idle old new (Err DispatchFailure) told cause = (tt, refl, told)
  end_told after idle old new (Err NoMemory) told cause = (tt, refl, told)
  end_told after idle old new (Err (ConstructionFailure refusal)) told cause = absurd cause
  end_told after idle old new (Err (ServiceError error raw)) told cause = absurd cause
  end_told after idle old new (Err (ResponseError (Frame error) (Decoded raw))) told cause = absurd cause
  end_told after idle old new (Err (ResponseError (Frame error) (Invalid (Some raw)))) told cause = absurd cause
  end_told after idle old new (Err (ResponseError (Frame error) (Invalid None))) told cause =
      let is = end_is (still_read after) (fault (error_kind error)) (ends_reading_as after (fault (error_kind error)) told cause) in (is, rw is.0 refl, tt)
  end_told after idle old new (Err (ResponseError (UnexpectedEndOfStream end) (Decoded raw))) told cause = absurd cause
  end_told after idle old new (Err (ResponseError (UnexpectedEndOfStream end) (Invalid None))) told cause = absurd cause
  end_told after idle old new (Err (ResponseError (UnexpectedEndOfStream end) (Invalid (Some bytes)))) told cause =
      let is = end_is (still_read after) (leftover bytes) (ends_reading_as after (leftover bytes) told cause) in (is, rw is.0 refl, tt)
  end_told after idle old new (Err (ResponseError (Unmarshall error) raw)) told cause = absurd cause
  end_told after idle old new (Err (ResponseError (Preprocessor error) raw)) told cause = absurd cause

  tell_rest : (calls : List Call) (old new : Receiver F U) → IsTold (rest_of source old) → TakeEach source old calls new → Tell calls (still_read (rest_of source old))
  tell_rest [] old new told each = tt
  tell_rest (call ∷ calls) old new told (between, (most, given, takes), each) =
      let same : call.messages ≡ takes.messages = append_cancel_left given call.messages takes.messages takes.appended in
      let begins = begins_reading (rest_of source old) takes.after takes.messages told takes.first in
      let ends = end_told takes.after (idle_count takes.frames) old between call.result begins.1 takes.cause in
      let others = tell_rest calls between new (subst IsTold (sym takes.left) ends.2) each in (
        (still_read takes.after).messages,
        ap (λ (r : Read). r.messages) begins.0 ∙ ap (λ (ms : List Parts). ms ++ (still_read takes.after).messages) (sym same),
        subst (EndsReading (drain_stop call.result) (still_read takes.after).messages) (sym (ap (λ (r : Read). r.end) begins.0)) ends.0,
        subst (λ (end : First). Tell calls (record { messages = (still_read takes.after).messages; end = if terminates call.result then nothing else end }))
            (sym (ap (λ (r : Read). r.end) begins.0))
            (subst (Tell calls) (ap still_read takes.left ∙ ends.1) others),
      )

  -- over any list of calls the answers are those of the reading of the bytes that were still to be read
  pub calls_tell : (calls : List Call) (old new : Receiver F U) (bytes : List ℕ) → rest_of source old ≡ unread bytes → TakeEach source old calls new → Tell calls (reading bytes)
  calls_tell calls old new bytes is each =
      subst (λ (rest : Rest). Tell calls (still_read rest)) is (tell_rest calls old new (subst IsTold (sym is) tt) each)

  -- and also where nothing is told they are what the bytes begin with that were taken
  pub calls_hold : (calls : List Call) (old new : Receiver F U) → TakeEach source old calls new → HoldFirst source old (messages_of calls) new
  calls_hold [] old new is = rw is ([], takes_none (source.left old.source), sym (append-nil (taken_bytes old)))
  calls_hold (call ∷ calls) old new (between, (most, given, takes), each) =
      let same : takes.messages ≡ call.messages = sym (append_cancel_left given call.messages takes.messages takes.appended) in
      let others = calls_hold calls between new each in (
        takes.frames ++ others.0,
        takes_more takes.frames others.0 (source.left old.source) (source.left between.source) (source.left new.source) takes.taken others.1,
        subst (λ (ms : List Parts). Begin (ms ++ messages_of calls) (taken_bytes old ++ frames_data (takes.frames ++ others.0)) (taken_bytes new)) same
            (reads_then (taken_bytes old) (taken_bytes between) (taken_bytes new) takes.frames others.0 takes.messages (messages_of calls) takes.read others.2),
      )
