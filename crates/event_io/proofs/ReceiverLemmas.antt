-- How a receiver takes frames, and what the bytes that it has taken hold.
use Rattle.std.proofs.Common.{◌≡◌, ◌⊎◌, inl, inr, ℕ, zero, suc, ◌+◌, ◌<◌, ◌≤◌, ◌==◌, ◌||◌, Bool, true, false, if◌then◌else◌, List, [], ◌∷◌, ◌++◌, length, take, drop, Option, Some, None, Result, Ok, Err, ap, refl, sym, subst, ◌∙◌, append-nil, append_assoc, arith}
use Rattle.std.proofs.lemmas.Bool.{cases_lt, eqb-false, eqb-true, ne_eqb}
use Rattle.std.proofs.lemmas.Grind.{flat_map-append}
use Rattle.std.proofs.lemmas.List.Sums.{sum_by-append}
use Rattle.std.proofs.lemmas.List.{nil_from_length}
use Rattle.smithy_core.specs.FrameSource.{IsDrained, TakesFrame}
use Rattle.smithy_core.specs.Message.{Parts}
use Rattle.smithy_core.specs.declared.outside.frame_part.FramePart.{FramePart}
use Rattle.smithy_core.specs.declared.outside.frame_source.FrameSource as FrameSource
use Rattle.eventstream.specs.Decode.{IsUnfinished, PeeksMessage}
use Rattle.eventstream.specs.Error.{error_kind}
use Rattle.eventstream.specs.Read.{read, read_prelude}
use Rattle.eventstream.specs.declared.read.lengths.Lengths.{Lengths}
use Rattle.eventstream.specs.Reading.{First, leftover, begins, as_first, first_of, reading}
use Rattle.eventstream.specs.declared.error.Error.{Error}
use Rattle.eventstream.specs.declared.error.ErrorKind.{ErrorKind}
use Rattle.eventstream.proofs.FrontLemmas.{first_bad, first_more, first_whole, short_is}
use Rattle.event_io.specs.Frames.{TakesFrames, data_in, frames_data, idle_count, most_idle, one_if_idle}
use Rattle.event_io.specs.Receiver.{IsCause, LacksFrame, Pulls, PullsFront, PullsOne, Reads, StopsAt, TakesTurns, taken_bytes}
use Rattle.event_io.specs.ResponseFault.{is_want_kind}
use Rattle.event_io.specs.Stop.{NamesStopWant, stop_of}
use Rattle.smithy_core.specs.declared.raw_message.RawMessage.TheVariants.{Decoded, Invalid}
use Rattle.smithy_core.specs.declared.sdk_error.SdkError.TheVariants.{ConstructionFailure, DispatchFailure, NoMemory, ResponseError, ServiceError}
use Rattle.smithy_core.proofs.OutsideLemmas.{rose_before}
use Rattle.eventstream.specs.declared.unmarshall.UnmarshallMessage as UnmarshallMessage
use Rattle.event_io.specs.declared.received.Received.{Received}
use Rattle.event_io.specs.declared.received.Received.TheVariants as received
use Rattle.event_io.specs.declared.response_fault.ResponseFault.TheVariants.{Frame, UnexpectedEndOfStream, Unmarshall, Preprocessor}
use Rattle.event_io.specs.ResponseFault.{ReceiveError}
use Rattle.event_io.specs.Receiver.{Begins, Comes, Cuts, CutsAt, Finds, KeepsNone, Makes, Receives, Rest, Settles, Tries, TriesFirst, TriesMessage, Unmarshals, after_frame, frames_of, is_terminated, kept_by, kept_message, put_back, recv_stop, rest_after, rest_of, terminated, terminates, tried_stop, unread, untold}
use Rattle.event_io.specs.declared.received.InitialMessageType.{InitialMessageType}
use Rattle.event_io.specs.declared.received.Tried.{Tried}
use Rattle.event_io.specs.declared.received.Tried.TheVariants as tried
use Rattle.eventstream.proofs.ReadingLemmas.{begin_fault, begin_unfinished, fault_stays, first_stays}
use Rattle.event_io.specs.declared.receiver.Receiver.{Receiver}
use Rattle.event_io.specs.declared.coming.Coming.{Coming}
use Rattle.event_io.specs.declared.coming.Front.{Front}
use Rattle.event_io.specs.declared.coming.Made.{Made}
use Rattle.event_io.specs.declared.coming.Made.TheVariants.{Answer, Back}
use Rattle.event_io.specs.declared.stop.Stop.{Stop}
use Rattle.event_io.specs.declared.stop.Stop.TheVariants as stop

-- a call that ends so has taken few frames without data
abbrev TakesTurnsLess : Stop → Type 0
TakesTurnsLess why = (count : ℕ) → count < most_idle → TakesTurns (Some why) count

-- ## Frames

-- one frame
takes_one : (frame : FramePart) (before now : Option (List FramePart)) → TakesFrame frame before now → TakesFrames (frame ∷ []) before now
takes_one frame None now takes = takes
takes_one frame (Some left) None takes = takes
takes_one frame (Some left) (Some rest) takes = takes

-- none
pub takes_none : (before : Option (List FramePart)) → TakesFrames [] before before
takes_none None = refl
takes_none (Some left) = refl

-- some and then others
pub takes_more : (frames more : List FramePart) (before between now : Option (List FramePart)) → TakesFrames frames before between → TakesFrames more between now
    → TakesFrames (frames ++ more) before now
takes_more frames more None between now first second = subst (λ (left : Option (List FramePart)). TakesFrames more left now) first second
takes_more frames more (Some left) None now first second = absurd first
takes_more frames more (Some left) (Some middle) None first second = absurd second
takes_more frames more (Some left) (Some middle) (Some rest) first second = first ∙ ap (λ (after : List FramePart). frames ++ after) second ∙ sym (append_assoc frames more rest)

pub idle_more : (frames more : List FramePart) → idle_count (frames ++ more) ≡ idle_count frames + idle_count more
idle_more frames more = sum_by-append one_if_idle frames more

-- ## Bytes

-- a frame counts as one without data, or has some
idle_is : (frame : FramePart) → ((one_if_idle frame ≡ 1) × (data_in frame ≡ [])) ⊎ ((one_if_idle frame ≡ 0) × (0 < length (data_in frame)))
idle_is frame = by (length (data_in frame) == 0) refl
  where
    by : (none : Bool) → (length (data_in frame) == 0) ≡ none
        → ((one_if_idle frame ≡ 1) × (data_in frame ≡ [])) ⊎ ((one_if_idle frame ≡ 0) × (0 < length (data_in frame)))
    by true is = inl (rw is refl, nil_from_length (data_in frame) (eqb-true _ _ is))
    by false is = let some : length (data_in frame) ≡ 0 → ⊥ = eqb-false _ _ is in inr (rw is refl, by_some (length (data_in frame)) some) where
      by_some : (n : ℕ) → (n ≡ 0 → ⊥) → 0 < n
      by_some zero some = absurd (some refl)
      by_some (suc n) some = omega arith

-- a frame that is there whole is a message or a fault
read_is : (n : ℕ) (bytes : List ℕ) (answer : Result (Parts × ℕ) ErrorKind) → IsUnfinished (as_first n bytes answer) → ⊥
read_is n bytes (Ok message) less = less
read_is n bytes (Err kind) less = less

-- some bytes that are less than a frame
unfinished_is : (bytes : List ℕ) → 0 < length bytes → IsUnfinished (first_of bytes) → first_of bytes ≡ leftover bytes
unfinished_is bytes some less =
    elim (cases_lt (length bytes) 12) [
      | inl short ↦ let test : (length bytes == 0) ≡ false = ne_eqb _ _ (λ none. absurd (omega arith)) in short_is bytes short ∙ rw test refl
      | inr long ↦ by_prelude long (read_prelude (take 12 bytes)) refl
    ]
  where
    by_prelude : 12 ≤ length bytes → (r : Result Lengths ErrorKind) → read_prelude (take 12 bytes) ≡ r → first_of bytes ≡ leftover bytes
    by_prelude long (Err kind) told = absurd (subst IsUnfinished (first_bad bytes kind long told) less)
    by_prelude long (Ok lengths) told =
        elim (cases_lt (length bytes) lengths.total) [
          | inl partial ↦ first_more bytes lengths long told partial
          | inr there ↦ absurd (read_is lengths.total bytes (read (take lengths.total bytes)) (subst IsUnfinished (first_whole bytes lengths told there) less))
        ]

-- no frame comes after less than one, for the reason that is told
lacks_is : (bytes : List ℕ) (why : Stop) → LacksFrame bytes why → IsUnfinished (first_of bytes) → StopsAt why bytes × NamesStopWant why × TakesTurnsLess why
lacks_is bytes stop.End lacks less = (lacks, tt, λ count few. few)
lacks_is bytes (stop.CutOff left) lacks less = (unfinished_is bytes lacks.1 less ∙ ap (λ (b : List ℕ). leftover b) (sym lacks.0), tt, λ count few. few)
lacks_is bytes stop.NotYet lacks less = (less, tt, λ count few. few)
lacks_is bytes stop.Failed lacks less = (less, tt, λ count few. few)
lacks_is bytes stop.NoMemory lacks less = (tt, tt, λ count few. few)
lacks_is bytes stop.OutOfTurns lacks less = absurd lacks
lacks_is bytes (stop.Faulty error) lacks less = absurd lacks

-- less than a frame is there
pub peeked_none : (bytes : List ℕ) (found : Option (Parts × ℕ)) → PeeksMessage bytes (Ok found) → found ≡ None → IsUnfinished (first_of bytes)
peeked_none bytes found peeks is = subst (λ (f : Option (Parts × ℕ)). PeeksMessage bytes (Ok f)) is peeks

-- a fault, or memory ran out
faulty_is : (bytes : List ℕ) (error : Error) → PeeksMessage bytes (Err error) → StopsAt (stop_of error) bytes × NamesStopWant (stop_of error) × TakesTurnsLess (stop_of error)
faulty_is bytes error peeks = by (is_want_kind (error_kind error)) refl peeks
  where
    by : (want : Bool) → is_want_kind (error_kind error) ≡ want → PeeksMessage bytes (Err error)
        → (let why : Stop = if want then stop.NoMemory else stop.Faulty error in StopsAt why bytes × NamesStopWant why × TakesTurnsLess why)
    by true is peeks = (tt, tt, λ count few. few)
    by false is (inl faulty) = (faulty, is, λ count few. few)
    by false is (inr want) = let no : ⊥ = (let also : is_want_kind (error_kind error) ≡ true = ap is_want_kind want in cc) in absurd no

module _ {F U : Type 0} (source : FrameSource.Ghosts F) where
  -- no frame is taken
  pub pulls_none : (receiver : Receiver F U) → Pulls source [] receiver receiver
  pulls_none receiver = record {
    taken = takes_none (source.left receiver.source);
    bytes = sym (append-nil receiver.buffer.bytes);
    waits = omega arith;
    faults = omega arith;
    others_stay = refl;
  }

  -- one frame is taken
  pub pulls_one : (frame : FramePart) (old new : Receiver F U) → TakesFrame frame (source.left old.source) (source.left new.source)
      → new.buffer.bytes ≡ old.buffer.bytes ++ data_in frame → source.waits old.source ≤ source.waits new.source → source.faults old.source ≤ source.faults new.source
      → new ≡ record old { source = new.source; buffer = new.buffer } → Pulls source (frame ∷ []) old new
  pulls_one frame old new takes bytes waits faults stay = record {
    taken = takes_one frame (source.left old.source) (source.left new.source) takes;
    bytes = bytes ∙ ap (λ (more : List ℕ). old.buffer.bytes ++ more) (sym (append-nil (data_in frame)));
    waits = waits;
    faults = faults;
    others_stay = stay;
  }

  -- some frames are taken, and then others
  pub pulls_more : (frames more : List FramePart) (old between new : Receiver F U) → Pulls source frames old between → Pulls source more between new
      → Pulls source (frames ++ more) old new
  pulls_more frames more old between new first second = record {
    taken = takes_more frames more (source.left old.source) (source.left between.source) (source.left new.source) first.taken second.taken;
    bytes =
        second.bytes
        ∙ ap (λ (bytes : List ℕ). bytes ++ frames_data more) first.bytes
        ∙ append_assoc old.buffer.bytes (frames_data frames) (frames_data more)
        ∙ ap (λ (bytes : List ℕ). old.buffer.bytes ++ bytes) (sym (flat_map-append data_in frames more));
    waits = omega (arith, first.waits, second.waits);
    faults = omega (arith, first.faults, second.faults);
    others_stay = second.others_stay ∙ ap (λ (middle : Receiver F U). record middle { source = new.source; buffer = new.buffer }) first.others_stay;
  }

  -- the turns that a call has taken: some frames, among them so many without data
  pub record Turned (old now : Receiver F U) (idle : ℕ) : Type 0 where
    pub frames : List FramePart
    pub pulls : Pulls source frames old now
    pub counted : idle_count frames ≡ idle
    pub within : idle ≤ most_idle
    pub unfinished : (idle < most_idle) ⊎ IsUnfinished (first_of (taken_bytes now))

  pub turned_none : (receiver : Receiver F U) → Turned receiver receiver 0
  turned_none receiver = record { frames = []; pulls = pulls_none receiver; counted = refl; within = omega arith; unfinished = inl (omega arith) }

  -- one frame more
  pub turned_more : (old between now : Receiver F U) (idle more : ℕ) → Turned old between idle → idle < most_idle → IsUnfinished (first_of (taken_bytes between))
      → PullsOne source between now (Ok more) → Turned old now (idle + more)
  turned_more old between now idle more turned few less (frame, pulls, is) =
      let count : idle_count (turned.frames ++ frame ∷ []) ≡ idle + more = idle_more turned.frames (frame ∷ []) ∙ rw (turned.counted, is) (omega arith) in
      record {
        frames = turned.frames ++ frame ∷ [];
        pulls = pulls_more turned.frames (frame ∷ []) old between now turned.pulls pulls;
        counted = count;
        within = by_count (idle_is frame);
        unfinished = by (idle_is frame);
      }
    where
      by_count : ((one_if_idle frame ≡ 1) × (data_in frame ≡ [])) ⊎ ((one_if_idle frame ≡ 0) × (0 < length (data_in frame))) → idle + more ≤ most_idle
      by_count (inl (one, none)) = omega (arith, is, one)
      by_count (inr (zero_is, some)) = omega (arith, is, zero_is)

      by : ((one_if_idle frame ≡ 1) × (data_in frame ≡ [])) ⊎ ((one_if_idle frame ≡ 0) × (0 < length (data_in frame)))
          → (idle + more < most_idle) ⊎ IsUnfinished (first_of (taken_bytes now))
      by (inl (one, none)) =
          let same : taken_bytes now ≡ taken_bytes between = pulls.bytes ∙ rw none (append-nil (taken_bytes between)) in
          inr (subst (λ (bytes : List ℕ). IsUnfinished (first_of bytes)) (sym same) less)
      by (inr (zero_is, some)) = inl (omega (arith, is, zero_is))

  -- ## How a search ends

  pub front_faulty : (old now : Receiver F U) (idle : ℕ) (error : Error) → Turned old now idle → idle < most_idle
      → PeeksMessage (taken_bytes now) (Err error) → PullsFront source old now (Err (stop_of error))
  front_faulty old now idle error turned few peeks =
      let is = faulty_is (taken_bytes now) error peeks in
      record {
        frames = turned.frames;
        pulls = turned.pulls;
        found = (is.0, is.1);
        cause = by (is_want_kind (error_kind error));
        turns = is.2 (idle_count turned.frames) (omega (arith, turned.counted));
      }
    where
      by : (want : Bool) → IsCause source (Some (if want then stop.NoMemory else stop.Faulty error)) old.source now.source
      by true = tt
      by false = tt

  pub front_lacks : (old between now : Receiver F U) (idle : ℕ) (why : Stop) → Turned old between idle → idle < most_idle
      → IsUnfinished (first_of (taken_bytes between)) → PullsOne source between now (Err why) → PullsFront source old now (Err why)
  front_lacks old between now idle why turned few less (pulls, lacks, cause) =
      let same : taken_bytes now ≡ taken_bytes between = pulls.bytes ∙ append-nil (taken_bytes between) in
      let is = lacks_is (taken_bytes now) why lacks (subst (λ (bytes : List ℕ). IsUnfinished (first_of bytes)) (sym same) less) in
      record {
        frames = turned.frames ++ [];
        pulls = pulls_more turned.frames [] old between now turned.pulls pulls;
        found = (is.0, is.1);
        cause = earlier why cause;
        turns = is.2 (idle_count (turned.frames ++ [])) (omega (arith, idle_more turned.frames [], turned.counted));
      }
    where
      earlier : (why : Stop) → IsCause source (Some why) between.source now.source → IsCause source (Some why) old.source now.source
      earlier stop.NotYet cause = rose_before (source.waits old.source) (source.waits between.source) (source.waits now.source) turned.pulls.waits cause
      earlier stop.Failed cause = rose_before (source.faults old.source) (source.faults between.source) (source.faults now.source) turned.pulls.faults cause
      earlier stop.End cause = cause
      earlier (stop.CutOff left) cause = cause
      earlier stop.OutOfTurns cause = tt
      earlier stop.NoMemory cause = tt
      earlier (stop.Faulty error) cause = tt

  -- ## What a call reads

  -- a message is there, and stays
  pub reads_want : (said : Parts → Type 0) (old new : Receiver F U) (front : Front) → PullsFront source old new (Ok front) → Reads source (Some stop.NoMemory) said old new
  reads_want said old new front pulls =
      record { frames = pulls.frames; taken = pulls.pulls.taken; found = (tt, pulls.pulls.bytes); cause = tt; turns = pulls.turns }

  -- a message is there, and is taken
  pub reads_message : (said : Parts → Type 0) (old between new : Receiver F U) (front : Front) → PullsFront source old between (Ok front) → said front.message
      → new.source ≡ between.source → new.buffer.bytes ≡ drop front.len between.buffer.bytes → Reads source None said old new
  reads_message said old between new front pulls says same left = record {
    frames = pulls.frames;
    taken = rw same pulls.pulls.taken;
    found = (front.message, says, rw (← pulls.pulls.bytes, left) pulls.found.1);
    cause = tt;
    turns = pulls.turns;
  }

-- nor is what a preprocessor answered for it
tried_no_stop : {M E : Type 0} (answers : Parts → Result (Parts × M) Error → Type 0) (kind : InitialMessageType) (message : Parts) (result : Result (Tried M) (ReceiveError E))
    → TriesMessage answers kind message result → tried_stop result ≡ None
tried_no_stop answers kind message (Ok (tried.Initial first beside)) says = refl
tried_no_stop answers kind message (Ok tried.Other) says = refl
tried_no_stop answers kind message (Ok tried.End) says = absurd says
tried_no_stop answers kind message (Ok tried.NotYet) says = absurd says
tried_no_stop answers kind message (Ok tried.OutOfTurns) says = absurd says
tried_no_stop answers kind message (Err (ConstructionFailure refusal)) says = absurd says
tried_no_stop answers kind message (Err DispatchFailure) says = absurd says
tried_no_stop answers kind message (Err NoMemory) says = absurd says
tried_no_stop answers kind message (Err (ServiceError error raw)) says = absurd says
tried_no_stop answers kind message (Err (ResponseError (Frame error) raw)) says = absurd says
tried_no_stop answers kind message (Err (ResponseError (UnexpectedEndOfStream end) raw)) says = absurd says
tried_no_stop answers kind message (Err (ResponseError (Unmarshall error) raw)) says = absurd says
tried_no_stop answers kind message (Err (ResponseError (Preprocessor error) raw)) says = refl

-- ## What is still to be read

-- the frames that are left end the stream where the reason says so
abbrev Drains : Stop → Option (List FramePart) → Type 0
Drains stop.End left = IsDrained left
Drains (stop.CutOff bytes) left = IsDrained left
Drains why left = Unit {0}

abbrev DrainsFor : Option Stop → Option (List FramePart) → Type 0
DrainsFor (Some why) left = Drains why left
DrainsFor None left = Unit {0}

cause_drains : {F : Type 0} (source : FrameSource.Ghosts F) (why : Option Stop) (before now : F) → IsCause source why before now → DrainsFor why (source.left now)
cause_drains source (Some stop.End) before now cause = cause
cause_drains source (Some (stop.CutOff bytes)) before now cause = cause
cause_drains source (Some stop.NotYet) before now cause = tt
cause_drains source (Some stop.OutOfTurns) before now cause = tt
cause_drains source (Some stop.Failed) before now cause = tt
cause_drains source (Some stop.NoMemory) before now cause = tt
cause_drains source (Some (stop.Faulty error)) before now cause = tt
cause_drains source None before now cause = tt

-- the rest as a call leaves it that goes on
abbrev CutsOpen : Option Stop → (Parts → Type 0) → Rest → Rest → Type 0
CutsOpen (Some why) said before now = CutsAt why before × (now ≡ before)
CutsOpen None said before now = (message : Parts) × said message × Begins before message now

untold_cuts : (why : Stop) → CutsAt why untold
untold_cuts stop.End = tt
untold_cuts (stop.CutOff bytes) = tt
untold_cuts stop.NotYet = tt
untold_cuts stop.OutOfTurns = tt
untold_cuts stop.Failed = tt
untold_cuts stop.NoMemory = tt
untold_cuts (stop.Faulty error) = tt

-- what holds of the bytes that came holds of all
cuts_at : (why : Stop) (seen : List ℕ) (left : List FramePart) → StopsAt why seen → Drains why (Some left) → CutsAt why (unread (seen ++ frames_data left))
cuts_at stop.End seen left is drained = rw (drained, is) refl
cuts_at (stop.CutOff bytes) seen left is drained =
    let same : seen ++ frames_data left ≡ seen = rw drained (append-nil seen) in
    let ends : reading seen ≡ record { messages = []; end = first_of seen } = begin_unfinished [] seen seen refl (subst IsUnfinished (sym is) tt) in
    rw same (ends ∙ ap (λ (last : First). record { messages = []; end = last }) is)
cuts_at (stop.Faulty error) seen left is drained =
    begin_fault [] (seen ++ frames_data left) (seen ++ frames_data left) (error_kind error) refl (fault_stays seen (error_kind error) (frames_data left) is)
cuts_at stop.NotYet seen left is drained = tt
cuts_at stop.OutOfTurns seen left is drained = tt
cuts_at stop.Failed seen left is drained = tt
cuts_at stop.NoMemory seen left is drained = tt

pub joined : (bytes : List ℕ) (frames left : List FramePart) → (bytes ++ frames_data frames) ++ frames_data left ≡ bytes ++ frames_data (frames ++ left)
joined bytes frames left =
    append_assoc bytes (frames_data frames) (frames_data left) ∙ ap (λ (more : List ℕ). bytes ++ more) (sym (flat_map-append data_in frames left))

cuts_open : (why : Option Stop) (said : Parts → Type 0) (bytes after : List ℕ) (frames : List FramePart) (before now : Option (List FramePart))
    → TakesFrames frames before now → Finds why said (bytes ++ frames_data frames) after → DrainsFor why now → CutsOpen why said (rest_after bytes before) (rest_after after now)
cuts_open (Some why) said bytes after frames None now takes found drains = (untold_cuts why, ap (rest_after after) takes)
cuts_open (Some why) said bytes after frames (Some before) None takes found drains = absurd takes
cuts_open (Some why) said bytes after frames (Some before) (Some now) takes found drains =
    let all : (bytes ++ frames_data frames) ++ frames_data now ≡ bytes ++ frames_data before = joined bytes frames now ∙ ap (λ (left : List FramePart). bytes ++ frames_data left) (sym takes) in (
      subst (λ (b : List ℕ). CutsAt why (unread b)) all (cuts_at why (bytes ++ frames_data frames) now found.0 drains),
      ap (λ (b : List ℕ). unread (b ++ frames_data now)) found.1 ∙ ap unread all,
    )
cuts_open None said bytes after frames None now takes found drains = (found.0, found.1, ap (rest_after after) takes)
cuts_open None said bytes after frames (Some before) None takes found drains = absurd takes
cuts_open None said bytes after frames (Some before) (Some now) takes found drains =
    let all : (bytes ++ frames_data frames) ++ frames_data now ≡ bytes ++ frames_data before = joined bytes frames now ∙ ap (λ (left : List FramePart). bytes ++ frames_data left) (sym takes) in (
      found.0,
      found.1,
      subst (λ (b : List ℕ). first_of b ≡ begins found.0 (after ++ frames_data now)) all (first_stays (bytes ++ frames_data frames) found.0 after (frames_data now) found.2),
    )

cuts_close : (why : Option Stop) (ends over : Bool) (said : Parts → Type 0) (before after : Rest) → CutsOpen why said before after → over ≡ ends
    → Cuts why ends said before (if over then terminated else after)
cuts_close (Some why) ends over said before after open_cuts is = (open_cuts.0, rw (is, open_cuts.1) refl)
cuts_close None ends over said before after open_cuts is = (open_cuts.0, open_cuts.1, after, open_cuts.2, rw is refl)

module _ {F U : Type 0} (source : FrameSource.Ghosts F) where
  -- what a call read, as it is said of the rest
  cuts_going : (why : Option Stop) (ends over : Bool) (said : Parts → Type 0) (old between : Receiver F U) → old.over ≡ false → Reads source why said old between → over ≡ ends
      → Cuts why ends said (rest_of source old) (rest_of source (record between { over = over }))
  cuts_going why ends over said old between going reads is =
      let cuts = cuts_close why ends over said (rest_after old.buffer.bytes (source.left old.source)) (rest_after between.buffer.bytes (source.left between.source))
      (cuts_open why said old.buffer.bytes between.buffer.bytes reads.frames (source.left old.source) (source.left between.source) reads.taken reads.found
      (cause_drains source why old.source between.source reads.cause)) is in
      subst
      (λ (b : Bool). Cuts why ends said (if b then terminated else rest_after old.buffer.bytes (source.left old.source)) (rest_of source (record between { over = over })))
      (sym going) cuts

  -- nothing more is read
  cuts_over : (over : Bool) (said : Parts → Type 0) (old between : Receiver F U) → old.over ≡ true → over ≡ true
      → Cuts (Some stop.End) false said (rest_of source old) (rest_of source (record between { over = over }))
  cuts_over over said old between terminated_before is = rw (terminated_before, is) (tt, refl)

  -- what a call answers, as it is said of the rest, where no message is kept
  cuts_either : {A E : Type 0} (stop_in : Result A (ReceiveError E) → Option Stop) (last : Result A (ReceiveError E)) → stop_in last ≡ Some stop.End → terminates last ≡ false
      → (said : Result A (ReceiveError E) → Parts → Type 0) (result : Result A (ReceiveError E)) (old between : Receiver F U) (over : Bool)
      → (old.over ≡ true → (result ≡ last) × (between ≡ old)) → (old.over ≡ false → Reads source (stop_in result) (said result) old between)
      → over ≡ (old.over || terminates result)
      → Cuts (stop_in result) (terminates result) (said result) (rest_of source old) (rest_of source (record between { over = over }))
  cuts_either {A = A} {E = E} stop_in last ends goes_on said result old between over ended going is = by old.over refl
    where
      by : (before : Bool) → old.over ≡ before
          → Cuts (stop_in result) (terminates result) (said result) (rest_of source old) (rest_of source (record between { over = over }))
      by true was =
          let answer : result ≡ last = (ended was).0 in
          subst
          (λ (r : Result A (ReceiveError E)). Cuts (stop_in r) (terminates r) (said r) (rest_of source old) (rest_of source (record between { over = over })))
          (sym answer)
          (subst (λ (why : Option Stop). Cuts why (terminates last) (said last) (rest_of source old) (rest_of source (record between { over = over }))) (sym ends)
          (subst (λ (b : Bool). Cuts (Some stop.End) b (said last) (rest_of source old) (rest_of source (record between { over = over }))) (sym goes_on)
          (cuts_over over (said last) old between was (is ∙ rw was refl))))
      by false was = cuts_going (stop_in result) (terminates result) over (said result) old between was (going was) (is ∙ rw was refl)

  module _ {T E : Type 0} (unmarshaller : UnmarshallMessage.Ghosts U T E) where
    -- what `recv` answers without a kept message, as it is said of the rest
    pub any_cut : (result : Result (Received T) (ReceiveError E)) (old between : Receiver F U) (over : Bool)
        → Receives source unmarshaller (kept_message old) (is_terminated old) old between result → over ≡ (old.over || terminates result) → kept_message old ≡ None
        → Cuts (recv_stop result) (terminates result) (λ message. Unmarshals unmarshaller old.unmarshaller message result) (rest_of source old)
        (rest_of source (record between { over = over }))
    any_cut result old between over receives is none =
        cuts_either recv_stop (Ok received.End) refl refl (λ r message. Unmarshals unmarshaller old.unmarshaller message r) result old between over
        (λ was. subst (λ (before : Bool). Receives source unmarshaller None before old between result) was open_receives)
        (λ was. (subst (λ (before : Bool). Receives source unmarshaller None before old between result) was open_receives).0) is
      where
        open_receives : Receives source unmarshaller None old.over old between result
        open_receives = subst (λ (kept : Option Parts). Receives source unmarshaller kept old.over old between result) none receives

  module _ {M E : Type 0} (answers : Parts → Result (Parts × M) Error → Type 0) (kind : InitialMessageType) where
    -- what a call answers that looks for the first message, without a kept one, as it is said of the rest
    pub any_cut_first : (result : Result (Tried M) (ReceiveError E)) (old between : Receiver F U) (over : Bool)
        → TriesFirst source answers kind (kept_message old) (is_terminated old) old between result → over ≡ (old.over || terminates result) → kept_message old ≡ None
        → Cuts (tried_stop result) (terminates result) (λ message. Tries answers kind message (kept_message between) result) (rest_of source old)
        (rest_of source (record between { over = over }))
    any_cut_first result old between over tries is none =
        cuts_either tried_stop (Ok tried.End) refl refl (λ r message. Tries answers kind message (kept_message between) r) result old between over
        (λ was. subst (λ (before : Bool). TriesFirst source answers kind None before old between result) was open_tries)
        (λ was. (subst (λ (before : Bool). TriesFirst source answers kind None before old between result) was open_tries).0) is
      where
        open_tries : TriesFirst source answers kind None old.over old between result
        open_tries = subst (λ (kept : Option Parts). TriesFirst source answers kind kept old.over old between result) none tries

-- ## What is said of a message

finds_weaker : (why : Option Stop) (said also : Parts → Type 0) (bytes left : List ℕ) → ((message : Parts) → said message → also message) → Finds why said bytes left
    → Finds why also bytes left
finds_weaker (Some why) said also bytes left weaker found = found
finds_weaker None said also bytes left weaker found = (found.0, weaker found.0 found.1, found.2)

-- ## A step of receiving

module _ {F U M E : Type 0} (source : FrameSource.Ghosts F) (answers : Parts → Result (Parts × M) Error → Type 0) (kind : InitialMessageType) where
  -- a message came, and was answered
  first_answered : (kept : Option Parts) (over : Bool) (old between new : Receiver F U) (coming : Coming) (answer : Result (Tried M) (ReceiveError E)) (left : Option Parts)
      → Comes source kept over old between (Ok coming) → TriesMessage answers kind coming.message answer → left ≡ kept_by coming.message answer
      → new ≡ record between { buffer = new.buffer; kept = left } → taken_bytes new ≡ after_frame coming.len (taken_bytes between)
      → TriesFirst source answers kind kept over old new answer
  first_answered (Some message) over old between new coming answer left (is, none, before) says keeps same bytes = (
    record {
      source_stays = ap (λ (r : Receiver F U). frames_of r) same ∙ ap (λ (r : Receiver F U). frames_of r) before;
      bytes_stay = bytes ∙ ap (λ (len : Option ℕ). after_frame len (taken_bytes between)) none ∙ ap (λ (r : Receiver F U). taken_bytes r) before;
    },
    inl
        (subst (λ (m : Parts). Tries answers kind m (kept_message new) answer) is (says, ap (λ (r : Receiver F U). kept_message r) same ∙ keeps)),
  )
  first_answered None true old between new coming answer left comes says keeps same bytes = absurd comes
  first_answered None false old between new coming answer left (len, some, pulls) says keeps same bytes =
      subst
      (λ (why : Option Stop). Reads source why (λ message. Tries answers kind message (kept_message new) answer) old new × KeepsNone why new)
      (sym (tried_no_stop answers kind coming.message answer says)) (
        reads_message source (λ message. Tries answers kind message (kept_message new) answer) old between new (record { message = coming.message; len = len }) pulls
            (says, ap (λ (r : Receiver F U). kept_message r) same ∙ keeps) (ap (λ (r : Receiver F U). frames_of r) same)
            (bytes ∙ ap (λ (l : Option ℕ). after_frame l (taken_bytes between)) some),
        tt,
      )

  -- a message came, and memory ran out
  first_put_back : (kept : Option Parts) (over : Bool) (old between new : Receiver F U) (coming : Coming) (result : Result (Tried M) (ReceiveError E)) → result ≡ Err NoMemory
      → Comes source kept over old between (Ok coming) → kept_message between ≡ None → new ≡ put_back coming.len coming.message between
      → TriesFirst source answers kind kept over old new result
  first_put_back (Some message) over old between new coming result want (is, none, before) empty back =
      let same : new ≡ record between { kept = Some coming.message } = back ∙ ap (λ (len : Option ℕ). put_back len coming.message between) none in (
        record {
          source_stays = ap (λ (r : Receiver F U). frames_of r) same ∙ ap (λ (r : Receiver F U). frames_of r) before;
          bytes_stay = ap (λ (r : Receiver F U). taken_bytes r) same ∙ ap (λ (r : Receiver F U). taken_bytes r) before;
        },
        inr (want, ap (λ (r : Receiver F U). kept_message r) same ∙ ap (λ (m : Parts). Some m) is),
      )
  first_put_back None true old between new coming result want comes empty back = absurd comes
  first_put_back None false old between new coming result want (len, some, pulls) empty back =
      let same : new ≡ between = back ∙ ap (λ (l : Option ℕ). put_back l coming.message between) some in
      subst (TriesFirst source answers kind None false old new) (sym want)
      (subst (λ (r : Receiver F U). TriesFirst {M = M} {E = E} source answers kind None false old r (Err NoMemory)) (sym same)
      (reads_want source (λ message. Tries {M = M} {E = E} answers kind message (kept_message between) (Err NoMemory)) old between (record { message = coming.message; len = len }) pulls, empty))

  -- a message came
  pub first_settled : (old between new : Receiver F U) (coming : Coming) (made : Made (Tried M) E) (result : Result (Tried M) (ReceiveError E))
      → Comes source (kept_message old) (is_terminated old) old between (Ok coming) → kept_message between ≡ None
      → Makes (TriesMessage answers kind) kept_by coming.message made → Settles coming.len made between new result
      → TriesFirst source answers kind (kept_message old) (is_terminated old) old new result
  first_settled old between new coming (Answer answer left) result comes none makes (is, same, bytes) =
      subst (TriesFirst source answers kind (kept_message old) (is_terminated old) old new) (sym is)
      (first_answered (kept_message old) (is_terminated old) old between new coming answer left comes makes.0 makes.1 same bytes)
  first_settled old between new coming (Back message) result comes none makes (is, same) =
      first_put_back (kept_message old) (is_terminated old) old between new coming result is comes none (same ∙ ap (λ (m : Parts). put_back coming.len m between) makes)

cuts_weaker : (why : Option Stop) (ends : Bool) (said also : Parts → Type 0) (before now : Rest) → ((message : Parts) → said message → also message) → Cuts why ends said before now
    → Cuts why ends also before now
cuts_weaker (Some why) ends said also before now weaker cuts = cuts
cuts_weaker None ends said also before now weaker cuts = (cuts.0, weaker cuts.0 cuts.1, cuts.2, cuts.3, cuts.4)

module _ {M E : Type 0} (answers others : Parts → Result (Parts × M) Error → Type 0)
    (weaker : (message : Parts) (answer : Result (Parts × M) Error) → answers message answer → others message answer) (kind : InitialMessageType) where
  tries_weaker : (message : Parts) (result : Result (Tried M) (ReceiveError E)) → TriesMessage answers kind message result → TriesMessage others kind message result
  tries_weaker message (Ok (tried.Initial first beside)) says = (weaker message (Ok (first, beside)) says.0, says.1)
  tries_weaker message (Ok tried.Other) says = (says.0, weaker message (Ok says.0) says.1, says.2)
  tries_weaker message (Ok tried.End) says = absurd says
  tries_weaker message (Ok tried.NotYet) says = absurd says
  tries_weaker message (Ok tried.OutOfTurns) says = absurd says
  tries_weaker message (Err (ConstructionFailure refusal)) says = absurd says
  tries_weaker message (Err DispatchFailure) says = absurd says
  tries_weaker message (Err NoMemory) says = absurd says
  tries_weaker message (Err (ServiceError error raw)) says = absurd says
  tries_weaker message (Err (ResponseError (Frame error) raw)) says = absurd says
  tries_weaker message (Err (ResponseError (UnexpectedEndOfStream end) raw)) says = absurd says
  tries_weaker message (Err (ResponseError (Unmarshall error) raw)) says = absurd says
  tries_weaker message (Err (ResponseError (Preprocessor error) (Decoded raw))) says = absurd says
  tries_weaker message (Err (ResponseError (Preprocessor error) (Invalid (Some bytes)))) says = absurd says
  tries_weaker message (Err (ResponseError (Preprocessor error) (Invalid None))) says = weaker message (Err error) says

  module _ {F U : Type 0} (source : FrameSource.Ghosts F) where
    -- what holds for a preprocessor holds for one of which less is told
    pub first_weaker : (kept : Option Parts) (over : Bool) (old new : Receiver F U) (result : Result (Tried M) (ReceiveError E))
        → TriesFirst source answers kind kept over old new result → TriesFirst source others kind kept over old new result
    first_weaker (Some message) over old new result (nothing_taken, inl tries) = (nothing_taken, inl (tries_weaker message result tries.0, tries.1))
    first_weaker (Some message) over old new result (nothing_taken, inr want) = (nothing_taken, inr want)
    first_weaker None true old new result tries = tries
    first_weaker None false old new result tries = (
      record {
        frames = tries.0.frames;
        taken = tries.0.taken;
        found = finds_weaker (tried_stop result) (λ message. Tries answers kind message (kept_message new) result) (λ message. Tries others kind message (kept_message new) result)
            (taken_bytes old ++ frames_data tries.0.frames) (taken_bytes new) (λ message says. (tries_weaker message result says.0, says.1)) tries.0.found;
        cause = tries.0.cause;
        turns = tries.0.turns;
      },
      tries.1,
    )

    pub any_cut_weaker : (old new : Receiver F U) (result : Result (Tried M) (ReceiveError E))
        → Cuts (tried_stop result) (terminates result) (λ message. Tries answers kind message (kept_message new) result) (rest_of source old) (rest_of source new)
        → Cuts (tried_stop result) (terminates result) (λ message. Tries others kind message (kept_message new) result) (rest_of source old) (rest_of source new)
    any_cut_weaker old new result cuts =
        cuts_weaker (tried_stop result) (terminates result) (λ message. Tries answers kind message (kept_message new) result)
        (λ message. Tries others kind message (kept_message new) result) (rest_of source old) (rest_of source new) (λ message says. (tries_weaker message result says.0, says.1)) cuts
