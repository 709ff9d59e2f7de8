-- How messages are taken one by one until there are enough.
use Rattle.std.proofs.Common.{◌≡◌, ℕ, ◌+◌, ◌<◌, ◌≤◌, Bool, true, false, if◌then◌else◌, List, [], ◌∷◌, ◌++◌, length, Option, Some, None, Result, Ok, Err, refl, ap, sym, subst, ◌∙◌, append-nil, append_assoc, length-append, arith}
use Rattle.std.proofs.lemmas.Bool.{false≢true}
use Rattle.smithy_core.specs.Message.{Parts}
use Rattle.smithy_core.specs.declared.outside.frame_part.FramePart.{FramePart}
use Rattle.smithy_core.specs.declared.outside.frame_source.FrameSource as FrameSource
use Rattle.smithy_core.specs.declared.raw_message.RawMessage.TheVariants.{Decoded, Invalid}
use Rattle.smithy_core.specs.declared.sdk_error.SdkError.TheVariants.{ConstructionFailure, DispatchFailure, NoMemory, ResponseError, ServiceError}
use Rattle.smithy_core.proofs.OutsideLemmas.{rose_before}
use Rattle.eventstream.specs.Decode.{IsUnfinished}
use Rattle.eventstream.specs.Reading.{Begin, begins, first_of, nothing}
use Rattle.eventstream.specs.Unmarshall.{PassesMessage}
use Rattle.eventstream.specs.declared.error.Error.{Error}
use Rattle.eventstream.specs.declared.unmarshall.UnmarshallMessage as UnmarshallMessage
use Rattle.eventstream.specs.declared.unmarshall.UnmarshalledMessage.{UnmarshalledMessage}
use Rattle.eventstream.proofs.ReadingLemmas.{begin_join, begin_stays, begin_unfinished}
use Rattle.event_io.specs.Drain.{BeginsWith, Counts, HoldsOnly, IsCauseToStop, ReceivesAll, HoldsNoneFor, drain_stop, drained_by, messages_in, stops}
use Rattle.event_io.specs.Frames.{TakesFrames, frames_data, idle_count}
use Rattle.event_io.specs.Receiver.{Begins, Cuts, IsReadOut, KeepsOthers, Reads, Receives, Rest, StopsAt, NamesWantOfMemory, Unmarshals, is_terminated, kept_message, recv_stop, rest_after, rest_of, taken_bytes, terminated, terminates, unread, untold}
use Rattle.event_io.specs.ResponseFault.{ReceiveError}
use Rattle.event_io.specs.declared.drain.Drained.{Drained}
use Rattle.event_io.specs.declared.drain.Drained.TheVariants as drained
use Rattle.event_io.specs.declared.received.Received.{Received}
use Rattle.event_io.specs.declared.received.Received.TheVariants as received
use Rattle.event_io.specs.declared.receiver.Receiver.{Receiver}
use Rattle.event_io.specs.declared.response_fault.ResponseFault.TheVariants.{Frame, UnexpectedEndOfStream, Unmarshall, Preprocessor}
use Rattle.event_io.specs.declared.stop.Stop.{Stop}
use Rattle.event_io.specs.declared.stop.Stop.TheVariants as stop
use Rattle.event_io.proofs.ReceiverLemmas.{idle_more, joined, takes_more, takes_none}

-- ## What the rest begins with

begins_none : (rest : Rest) → BeginsWith rest [] rest
begins_none terminated = (refl, refl)
begins_none untold = refl
begins_none (unread bytes) = refl

begins_one : (before : Rest) (message : Parts) (after : Rest) → Begins before message after → BeginsWith before (message ∷ []) after
begins_one terminated message after first = absurd first
begins_one untold message after first = first
begins_one (unread bytes) message terminated first = absurd first
begins_one (unread bytes) message untold first = absurd first
begins_one (unread bytes) message (unread others) first = (others, first, refl)

pub begins_more : (before between after : Rest) (messages others : List Parts) → BeginsWith before messages between → BeginsWith between others after
    → BeginsWith before (messages ++ others) after
begins_more terminated between after messages others first second =
    let is : BeginsWith terminated others after = subst (λ (rest : Rest). BeginsWith rest others after) first.1 second in
    (rw (first.0, is.0) refl, is.1)
begins_more untold between after messages others first second = subst (λ (rest : Rest). BeginsWith rest others after) first second
begins_more (unread bytes) terminated after messages others first second = absurd first
begins_more (unread bytes) untold after messages others first second = absurd first
begins_more (unread bytes) (unread left) terminated messages others first second = absurd second
begins_more (unread bytes) (unread left) untold messages others first second = absurd second
begins_more (unread bytes) (unread left) (unread last) messages others first second = begin_join messages others bytes left last first second

pub nothing_first : first_of [] ≡ nothing
unfolding first_of
nothing_first = refl

-- with nothing left after them the messages are all
holds_only : (before after : Rest) (messages : List Parts) → BeginsWith before messages after → IsReadOut after → HoldsOnly before messages
holds_only terminated after messages first out = tt
holds_only untold after messages first out = tt
holds_only (unread bytes) terminated messages first out = absurd first
holds_only (unread bytes) untold messages first out = absurd first
holds_only (unread bytes) (unread left) messages first out =
    let none : first_of left ≡ nothing = ap first_of out ∙ nothing_first in
    rw (← none) (begin_unfinished messages bytes left first (subst IsUnfinished (sym none) tt))

-- the messages that the bytes begin with, and then others that the bytes after them begin with
pub reads_then : (bytes between after : List ℕ) (frames more : List FramePart) (messages others : List Parts) → Begin messages (bytes ++ frames_data frames) between
    → Begin others (between ++ frames_data more) after → Begin (messages ++ others) (bytes ++ frames_data (frames ++ more)) after
reads_then bytes between after frames more messages others first second =
    subst (λ (all : List ℕ). Begin (messages ++ others) all after) (joined bytes frames more)
    (begin_join messages others ((bytes ++ frames_data frames) ++ frames_data more) (between ++ frames_data more) after
    (begin_stays messages (bytes ++ frames_data frames) between (frames_data more) first) second)

-- ## One message

-- fewer than one is none
counts_none : (count most : ℕ) (result : Result Drained (ReceiveError Error)) → stops result ≡ true → Counts 1 count result → (some : ℕ) → some < most → Counts most (some + count) result
counts_none count most (Ok drained.Enough) stopped counts some less = absurd (false≢true stopped)
counts_none count most (Ok drained.End) stopped counts some less = omega (arith, counts)
counts_none count most (Ok drained.NotYet) stopped counts some less = omega (arith, counts)
counts_none count most (Ok drained.OutOfTurns) stopped counts some less = omega (arith, counts)
counts_none count most (Err error) stopped counts some less = omega (arith, counts)

enough_is : (result : Result Drained (ReceiveError Error)) → stops result ≡ false → result ≡ Ok drained.Enough
enough_is (Ok drained.Enough) is = refl
enough_is (Ok drained.End) is = cc
enough_is (Ok drained.NotYet) is = cc
enough_is (Ok drained.OutOfTurns) is = cc
enough_is (Err error) is = cc

module _ {F U : Type 0} (source : FrameSource.Ghosts F) where
  -- nothing is taken
  pub receives_none : (receiver : Receiver F U) (given : List Parts) → ReceivesAll source 0 receiver receiver given given (Ok drained.Enough)
  receives_none receiver given = record {
    frames = [];
    taken = takes_none (source.left receiver.source);
    messages = [];
    appended = sym (append-nil given);
    read = sym (append-nil (taken_bytes receiver));
    stopped = λ going. tt;
    counted = refl;
    after = rest_of source receiver;
    first = begins_none (rest_of source receiver);
    cause = tt;
    left = refl;
    all = λ is. cc;
    ended = λ over. (refl, tt);
  }

  pub receives_no_room : (receiver : Receiver F U) (given : List Parts) → ReceivesAll source 1 receiver receiver given given (Err NoMemory)
  receives_no_room receiver given = record {
    frames = [];
    taken = takes_none (source.left receiver.source);
    messages = [];
    appended = sym (append-nil given);
    read = sym (append-nil (taken_bytes receiver));
    stopped = λ going. tt;
    counted = omega arith;
    after = rest_of source receiver;
    first = begins_none (rest_of source receiver);
    cause = tt;
    left = refl;
    all = λ is. cc;
    ended = λ over. (refl, tt);
  }

  -- a terminated receiver
  receives_over : (receiver : Receiver F U) (given : List Parts) → receiver.over ≡ true → ReceivesAll source 1 receiver receiver given (given ++ []) (Ok drained.End)
  receives_over receiver given over = record {
    frames = [];
    taken = takes_none (source.left receiver.source);
    messages = [];
    appended = refl;
    read = sym (append-nil (taken_bytes receiver));
    stopped = λ going. absurd (false≢true (sym going ∙ over));
    counted = omega arith;
    after = rest_of source receiver;
    first = begins_none (rest_of source receiver);
    cause = rw over tt;
    left = refl;
    all = λ is. rw over tt;
    ended = λ is. (refl, tt);
  }

  -- an answer without a message, and why
  receives_stop : (old new : Receiver F U) (given : List Parts) (result : Result Drained (ReceiveError Error)) (frames : List FramePart) (why : Stop)
      → TakesFrames frames (source.left old.source) (source.left new.source) → drain_stop result ≡ Some why
      → StopsAt why (taken_bytes old ++ frames_data frames) × (taken_bytes new ≡ taken_bytes old ++ frames_data frames)
      → Counts 1 0 result → IsCauseToStop source (rest_of source old) (idle_count frames) old new result
      → rest_of source new ≡ (if terminates result then terminated else rest_of source old) → (result ≡ Ok drained.End → IsReadOut (rest_of source old)) → old.over ≡ false
      → ReceivesAll source 1 old new given (given ++ []) result
  receives_stop old new given result frames why taken is found counts cause left out going = record {
    frames = frames;
    taken = taken;
    messages = [];
    appended = refl;
    read = found.1;
    stopped = λ goes_on. subst (λ (reason : Option Stop). HoldsNoneFor reason (taken_bytes new)) (sym is) (subst (StopsAt why) (sym found.1) found.0);
    counted = counts;
    after = rest_of source old;
    first = begins_none (rest_of source old);
    cause = cause;
    left = left;
    all = λ ends. holds_only (rest_of source old) (rest_of source old) [] (begins_none (rest_of source old)) (out ends);
    ended = λ over. absurd (false≢true (sym going ∙ over));
  }

  receives_event : (old new : Receiver F U) (given : List Parts) (frames : List FramePart) (message : Parts) (after : Rest)
      → TakesFrames frames (source.left old.source) (source.left new.source) → first_of (taken_bytes old ++ frames_data frames) ≡ begins message (taken_bytes new)
      → Begins (rest_of source old) message after → rest_of source new ≡ after → old.over ≡ false
      → ReceivesAll source 1 old new given (given ++ message ∷ []) (Ok drained.Enough)
  receives_event old new given frames message after taken comes first left going = record {
    frames = frames;
    taken = taken;
    messages = message ∷ [];
    appended = refl;
    read = (taken_bytes new, comes, refl);
    stopped = λ goes_on. tt;
    counted = refl;
    after = after;
    first = begins_one (rest_of source old) message after first;
    cause = tt;
    left = left;
    all = λ is. cc;
    ended = λ over. absurd (false≢true (sym going ∙ over));
  }

  -- the bytes at hand are less than a frame
  unfinished_left : (old new : Receiver F U) (frames : List FramePart) → IsUnfinished (first_of (taken_bytes old ++ frames_data frames)) → taken_bytes new ≡ taken_bytes old ++ frames_data frames
      → IsUnfinished (first_of (taken_bytes new))
  unfinished_left old new frames less same = subst (λ (bytes : List ℕ). IsUnfinished (first_of bytes)) (sym same) less

  module _ (unmarshaller : UnmarshallMessage.Ghosts U Parts Error)
      (passes : (by : U) (message : Parts) (answer : Result (UnmarshalledMessage Parts Error) Error) → unmarshaller.answers by message answer → PassesMessage message answer) where
    receives_open : (answer : Result (Received Parts) (ReceiveError Error)) (old new : Receiver F U) (given : List Parts) → old.over ≡ false
        → Reads source (recv_stop answer) (λ message. Unmarshals unmarshaller old.unmarshaller message answer) old new
        → Cuts (recv_stop answer) (terminates answer) (λ message. Unmarshals unmarshaller old.unmarshaller message answer) (rest_of source old) (rest_of source new)
        → NamesWantOfMemory answer → ReceivesAll source 1 old new given (given ++ messages_in answer) (drained_by answer)
    receives_open (Ok (received.Event message)) old new given going reads cuts want =
        let same : message ≡ cuts.0 = passes old.unmarshaller cuts.0 _ cuts.1 in
        let comes : message ≡ reads.found.0 = passes old.unmarshaller reads.found.0 _ reads.found.1 in
        receives_event old new given reads.frames message cuts.2 reads.taken
        (subst (λ (m : Parts). first_of (taken_bytes old ++ frames_data reads.frames) ≡ begins m (taken_bytes new)) (sym comes) reads.found.2)
        (subst (λ (m : Parts). Begins (rest_of source old) m cuts.2) (sym same) cuts.3) cuts.4 going
    receives_open (Ok received.End) old new given going reads cuts want =
        receives_stop old new given (Ok drained.End) reads.frames stop.End reads.taken refl reads.found (omega arith) cuts.0 cuts.1 (λ is. cuts.0) going
    receives_open (Ok received.NotYet) old new given going reads cuts want =
        receives_stop old new given (Ok drained.NotYet) reads.frames stop.NotYet reads.taken refl reads.found (omega arith)
        (reads.cause, unfinished_left old new reads.frames reads.found.0 reads.found.1) cuts.1 (λ is. cc) going
    receives_open (Ok received.OutOfTurns) old new given going reads cuts want =
        receives_stop old new given (Ok drained.OutOfTurns) reads.frames stop.OutOfTurns reads.taken refl reads.found (omega arith) (omega (arith, reads.turns)) cuts.1 (λ is. cc) going
    receives_open (Err (ConstructionFailure refusal)) old new given going reads cuts want = absurd cuts.1
    receives_open (Err DispatchFailure) old new given going reads cuts want =
        receives_stop old new given (Err DispatchFailure) reads.frames stop.Failed reads.taken refl reads.found (omega arith)
        (reads.cause, unfinished_left old new reads.frames reads.found.0 reads.found.1) cuts.1 (λ is. cc) going
    receives_open (Err NoMemory) old new given going reads cuts want =
        receives_stop old new given (Err NoMemory) reads.frames stop.NoMemory reads.taken refl reads.found (omega arith) tt cuts.1 (λ is. cc) going
    receives_open (Err (ServiceError error (Decoded raw))) old new given going reads cuts want = absurd (passes old.unmarshaller cuts.0 _ cuts.1.0)
    receives_open (Err (ServiceError error (Invalid raw))) old new given going reads cuts want = absurd cuts.1
    receives_open (Err (ResponseError (Frame error) (Decoded raw))) old new given going reads cuts want = absurd cuts.1
    receives_open (Err (ResponseError (Frame error) (Invalid (Some raw)))) old new given going reads cuts want = absurd cuts.1
    receives_open (Err (ResponseError (Frame error) (Invalid None))) old new given going reads cuts want =
        receives_stop old new given (Err (ResponseError (Frame error) (Invalid None))) reads.frames (stop.Faulty error) reads.taken refl reads.found (omega arith) cuts.0 cuts.1 (λ is. cc) going
    receives_open (Err (ResponseError (UnexpectedEndOfStream end) (Decoded raw))) old new given going reads cuts want = absurd cuts.1
    receives_open (Err (ResponseError (UnexpectedEndOfStream end) (Invalid None))) old new given going reads cuts want = absurd cuts.1
    receives_open (Err (ResponseError (UnexpectedEndOfStream end) (Invalid (Some bytes)))) old new given going reads cuts want =
        receives_stop old new given (Err (ResponseError (UnexpectedEndOfStream end) (Invalid (Some bytes)))) reads.frames (stop.CutOff bytes) reads.taken refl reads.found (omega arith) cuts.0 cuts.1 (λ is. cc) going
    receives_open (Err (ResponseError (Unmarshall error) (Decoded raw))) old new given going reads cuts want =
        let is : PassesMessage {E = Error} cuts.0 (Err error) = passes old.unmarshaller cuts.0 _ cuts.1.0 in absurd (false≢true (sym want ∙ rw is refl))
    receives_open (Err (ResponseError (Unmarshall error) (Invalid raw))) old new given going reads cuts want = absurd cuts.1
    receives_open (Err (ResponseError (Preprocessor error) raw)) old new given going reads cuts want = absurd cuts.1

    -- what `recv` answers is one message, or why there is none
    pub receives_answer : (answer : Result (Received Parts) (ReceiveError Error)) (old new : Receiver F U) (given gained : List Parts) → gained ≡ given ++ messages_in answer
        → kept_message old ≡ None
        → Receives source unmarshaller (kept_message old) (is_terminated old) old new answer
        → (kept_message old ≡ None → Cuts (recv_stop answer) (terminates answer) (λ message. Unmarshals unmarshaller old.unmarshaller message answer) (rest_of source old) (rest_of source new))
        → NamesWantOfMemory answer → ReceivesAll source 1 old new given gained (drained_by answer)
    receives_answer answer old new given gained appended none receives cuts want = rw appended (by old.over refl)
      where
        at_none : Receives source unmarshaller None old.over old new answer
        at_none = subst (λ (kept : Option Parts). Receives source unmarshaller kept old.over old new answer) none receives

        by : (over : Bool) → old.over ≡ over → ReceivesAll source 1 old new given (given ++ messages_in answer) (drained_by answer)
        by true is =
            let ends = subst (λ (over : Bool). Receives source unmarshaller None over old new answer) is at_none in
            rw (ends.0, ends.1) (receives_over old given is)
        by false is =
            receives_open answer old new given is (subst (λ (over : Bool). Receives source unmarshaller None over old new answer) is at_none).0 (cuts none) want

    -- what `recv` answers, where it is told apart
    pub receives_told : (answer told : Received Parts) → answer ≡ told → (old new : Receiver F U) (given gained : List Parts) → gained ≡ given ++ messages_in (Ok told)
        → kept_message old ≡ None → Receives source unmarshaller (kept_message old) (is_terminated old) old new (Ok answer)
        → (kept_message old ≡ None
        → Cuts (recv_stop {E = Error} (Ok answer)) (terminates {E = Error} (Ok answer)) (λ message. Unmarshals unmarshaller old.unmarshaller message (Ok answer)) (rest_of source old)
        (rest_of source new)) → ReceivesAll source 1 old new given gained (drained_by (Ok told))
    receives_told answer told is old new given gained same none receives cuts =
        let appended : gained ≡ given ++ messages_in (Ok answer) = same ∙ sym (ap (λ (r : Received Parts). given ++ messages_in (Ok r)) is) in
        subst (λ (r : Received Parts). ReceivesAll source 1 old new given gained (drained_by (Ok r))) is
        (receives_answer (Ok answer) old new given gained appended none receives cuts tt)

    -- no message is kept afterwards
    pub keeps_none : (answer : Result (Received Parts) (ReceiveError Error)) (old new : Receiver F U) → kept_message old ≡ None
        → Receives source unmarshaller (kept_message old) (is_terminated old) old new answer → kept_message new ≡ None
    keeps_none answer old new none receives = by old.over refl
      where
        at_none : Receives source unmarshaller None old.over old new answer
        at_none = subst (λ (kept : Option Parts). Receives source unmarshaller kept old.over old new answer) none receives

        by : (over : Bool) → old.over ≡ over → kept_message new ≡ None
        by true is =
            let ends = subst (λ (over : Bool). Receives source unmarshaller None over old new answer) is at_none in
            rw ends.1 none
        by false is = (subst (λ (over : Bool). Receives source unmarshaller None over old new answer) is at_none).1

  -- ## One message more

  -- the same cause, since the first of some calls
  cause_since : (old between new : Receiver F U) (after : Rest) (idle more : ℕ) (result : Result Drained (ReceiveError Error))
      → source.waits old.source ≤ source.waits between.source → source.faults old.source ≤ source.faults between.source
      → IsCauseToStop source after more between new result → IsCauseToStop source after (idle + more) old new result
  cause_since old between new after idle more (Ok drained.Enough) waits faults cause = tt
  cause_since old between new after idle more (Ok drained.End) waits faults cause = cause
  cause_since old between new after idle more (Ok drained.NotYet) waits faults cause =
      (rose_before (source.waits old.source) (source.waits between.source) (source.waits new.source) waits cause.0, cause.1)
  cause_since old between new after idle more (Ok drained.OutOfTurns) waits faults cause = omega (arith, cause)
  cause_since old between new after idle more (Err DispatchFailure) waits faults cause =
      (rose_before (source.faults old.source) (source.faults between.source) (source.faults new.source) faults cause.0, cause.1)
  cause_since old between new after idle more (Err NoMemory) waits faults cause = tt
  cause_since old between new after idle more (Err (ConstructionFailure refusal)) waits faults cause = absurd cause
  cause_since old between new after idle more (Err (ServiceError error raw)) waits faults cause = absurd cause
  cause_since old between new after idle more (Err (ResponseError (Frame error) (Decoded raw))) waits faults cause = absurd cause
  cause_since old between new after idle more (Err (ResponseError (Frame error) (Invalid (Some raw)))) waits faults cause = absurd cause
  cause_since old between new after idle more (Err (ResponseError (Frame error) (Invalid None))) waits faults cause = cause
  cause_since old between new after idle more (Err (ResponseError (UnexpectedEndOfStream end) (Decoded raw))) waits faults cause = absurd cause
  cause_since old between new after idle more (Err (ResponseError (UnexpectedEndOfStream end) (Invalid None))) waits faults cause = absurd cause
  cause_since old between new after idle more (Err (ResponseError (UnexpectedEndOfStream end) (Invalid (Some bytes)))) waits faults cause = cause
  cause_since old between new after idle more (Err (ResponseError (Unmarshall error) raw)) waits faults cause = absurd cause
  cause_since old between new after idle more (Err (ResponseError (Preprocessor error) raw)) waits faults cause = absurd cause

  -- a receiver goes on that isn't terminated, where the messages that it took tell no fault
  stays_open : (old between : Receiver F U) (messages : List Parts) (after : Rest) → BeginsWith (rest_of source old) messages after → rest_of source between ≡ after → old.over ≡ false
      → between.over ≡ false
  stays_open old between messages after first left going = by between.over refl where
    not_over : (bytes : List ℕ) (frames : Option (List FramePart)) → BeginsWith (rest_after bytes frames) messages terminated → ⊥
    not_over bytes None is = cc
    not_over bytes (Some frames) is = is

    by : (over : Bool) → between.over ≡ over → between.over ≡ false
    by false is = is
    by true is =
        let over : terminated ≡ after = sym (rw is refl) ∙ left in
        let begins_over : BeginsWith (rest_of source old) messages terminated = subst (λ (rest : Rest). BeginsWith (rest_of source old) messages rest) (sym over) first in
        absurd (not_over old.buffer.bytes (source.left old.source)
        (subst (λ (b : Bool). BeginsWith (if b then terminated else rest_after old.buffer.bytes (source.left old.source)) messages terminated) going begins_over))

  -- after some messages one more was taken, or there is a reason why not
  receives_then : (some most : ℕ) (old between new : Receiver F U) (given middle gained : List Parts) (result : Result Drained (ReceiveError Error))
      → (first : ReceivesAll source some old between given middle (Ok drained.Enough)) → (second : ReceivesAll source 1 between new middle gained result)
      → source.waits old.source ≤ source.waits between.source → source.faults old.source ≤ source.faults between.source
      → Counts most (some + length second.messages) result → ReceivesAll source most old new given gained result
  receives_then some most old between new given middle gained result first second waits faults counts =
      let goes_on : BeginsWith first.after second.messages second.after =
      subst (λ (rest : Rest). BeginsWith rest second.messages second.after) first.left second.first in
      let joined : BeginsWith (rest_of source old) (first.messages ++ second.messages) second.after =
      begins_more (rest_of source old) first.after second.after first.messages second.messages first.first goes_on in
      let cause = cause_since old between new second.after (idle_count first.frames) (idle_count second.frames) result waits faults second.cause in
      record {
        frames = first.frames ++ second.frames;
        taken = takes_more first.frames second.frames (source.left old.source) (source.left between.source) (source.left new.source) first.taken second.taken;
        messages = first.messages ++ second.messages;
        appended = second.appended ∙ ap (λ (front : List Parts). front ++ second.messages) first.appended ∙ append_assoc given first.messages second.messages;
        read = reads_then (taken_bytes old) (taken_bytes between) (taken_bytes new) first.frames second.frames first.messages second.messages first.read second.read;
        stopped = λ going. second.stopped (stays_open old between first.messages first.after first.first first.left going);
        counted = subst (λ (n : ℕ). Counts most n result) (ap (λ (n : ℕ). n + length second.messages) (sym first.counted) ∙ sym (length-append first.messages second.messages)) counts;
        after = second.after;
        first = joined;
        cause = subst (λ (n : ℕ). IsCauseToStop source second.after n old new result) (sym (idle_more first.frames second.frames)) cause;
        left = second.left;
        all = λ is. holds_only (rest_of source old) second.after (first.messages ++ second.messages) joined (subst (IsCauseToStop source second.after (idle_count second.frames) between new) is second.cause);
        ended = λ over. let was = first.ended over in let is = second.ended (rw was.0 over) in (is.0 ∙ was.0, is.1);
      }

  -- one more was taken
  pub receives_more : (some : ℕ) (old between new : Receiver F U) (given middle gained : List Parts) (result : Result Drained (ReceiveError Error))
      → ReceivesAll source some old between given middle (Ok drained.Enough) → ReceivesAll source 1 between new middle gained result → KeepsOthers source old between → stops result ≡ false
      → ReceivesAll source (some + 1) old new given gained (Ok drained.Enough)
  receives_more some old between new given middle gained result first second others is =
      let enough : ReceivesAll source 1 between new middle gained (Ok drained.Enough) = subst (ReceivesAll source 1 between new middle gained) (enough_is result is) second in
      receives_then some (some + 1) old between new given middle gained (Ok drained.Enough) first enough others.waits others.faults (ap (λ (n : ℕ). some + n) enough.counted)

  -- no more was taken
  pub receives_last : (some most : ℕ) (old between new : Receiver F U) (given middle gained : List Parts) (result : Result Drained (ReceiveError Error))
      → ReceivesAll source some old between given middle (Ok drained.Enough) → ReceivesAll source 1 between new middle gained result → KeepsOthers source old between → stops result ≡ true
      → some < most → ReceivesAll source most old new given gained result
  receives_last some most old between new given middle gained result first second others stopped less =
      receives_then some most old between new given middle gained result first second others.waits others.faults
      (counts_none (length second.messages) most result stopped second.counted some less)

  pub keeps_join : (old between new : Receiver F U) → KeepsOthers source old between → KeepsOthers source between new → KeepsOthers source old new
  keeps_join old between new first second = record {
    unmarshaller_stays = second.unmarshaller_stays ∙ first.unmarshaller_stays;
    waits = omega (arith, first.waits, second.waits);
    faults = omega (arith, first.faults, second.faults);
  }
