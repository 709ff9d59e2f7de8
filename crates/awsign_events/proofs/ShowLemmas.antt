-- Messages that are shown one after another.
use Rattle.std.proofs.Common.{◌≡◌, ℕ, ◌+◌, ◌<◌, ◌⊎◌, inl, inr, true, lit<, drop, take, List, [], ◌∷◌, ◌++◌, length, Option, refl, sym, ap, subst, ◌∙◌, append-nil, length-append, arith}
use Rattle.std.specs.List.{list_all}
use Rattle.std.proofs.lemmas.Grind.{flat_map-append}
use Rattle.std.proofs.lemmas.List.Folds.{list_all-append}
use Rattle.smithy_core.specs.Calls.{one_more}
use Rattle.smithy_core.specs.Message.{Parts}
use Rattle.std.specs.Prelude.{Err}
use Rattle.smithy_core.specs.Outside.{Gains, GainsPrefix, IsCutOf}
use Rattle.smithy_core.proofs.GainLemmas.{gains_front, gains_last, gains_nothing, prefix_from_whole, prefix_join}
use Rattle.eventstream.specs.Error.{error_kind}
use Rattle.eventstream.specs.Frame.{most_frame}
use Rattle.eventstream.specs.Reading.{Begin, begins, fault, first_of}
use Rattle.eventstream.specs.declared.error.Error.{Error}
use Rattle.eventstream.specs.declared.error.ErrorKind.{ErrorKind}
use Rattle.eventstream.specs.declared.error.ErrorKind.TheVariants as kind
use Rattle.eventstream.proofs.FrontLemmas.{first_short}
use Rattle.eventstream.proofs.ReadingLemmas.{begin_join, begin_stays, shorter}
use Rattle.awsign_words.specs.declared.events.EventForm.{EventForm}
use Rattle.awsign_run.specs.declared.status.Status.TheVariants.{NoMemory, OutputFault}
use Rattle.awsign_events.specs.EventText.{is_spelled, message_text, message_texts}
use Rattle.awsign_events.specs.Decode.{EndsDecoding, Shows, ShowsPart, ShowsUpTo, StopsDecoding, WaitsUnfinished, WritesMessage, wrong_frame, wrong_frame_of}
use Rattle.awsign_events.specs.declared.decode.Frames.{Frames}
use Rattle.awsign_events.specs.declared.status.EventsStatus.{EventsStatus}
use Rattle.awsign_events.specs.declared.status.EventsStatus.TheVariants.{Ended, Unspelled, WrongFrame}

-- nothing is shown of no bytes
pub shows_none : (form : EventForm) (held : Option (List ℕ)) → Shows form [] [] 1 held held
shows_none form held = record { messages = []; begin = refl; spelled = refl; placed = refl; gains = gains_nothing held }

-- what is shown stays, however the bytes go on
pub shows_more : (form : EventForm) (taken rest more : List ℕ) (place : ℕ) (before now : Option (List ℕ)) → Shows form taken rest place before now
    → Shows form (taken ++ more) (rest ++ more) place before now
shows_more form taken rest more place before now shown = record {
  messages = shown.messages;
  begin = begin_stays shown.messages taken rest more shown.begin;
  spelled = shown.spelled;
  placed = shown.placed;
  gains = shown.gains;
}

module _ (form : EventForm) (messages : List Parts) (message : Parts) where
  -- the texts of one message more
  texts_more : message_texts form (messages ++ message ∷ []) ≡ message_texts form messages ++ message_text form message
  texts_more = flat_map-append (message_text form) messages (message ∷ []) ∙ ap (λ (text : List ℕ). message_texts form messages ++ text) (append-nil (message_text form message))

  -- the form can spell one message more
  pub spelled_more : list_all (is_spelled form) messages ≡ true → is_spelled form message ≡ true → list_all (is_spelled form) (messages ++ message ∷ []) ≡ true
  spelled_more all one = list_all-append (is_spelled form) messages (message ∷ []) ∙ rw (all, one) refl

  -- what the output gains by one message more
  pub gains_more : (a b c : Option (List ℕ)) → Gains a b (message_texts form messages) → Gains b c (message_text form message)
      → Gains a c (message_texts form (messages ++ message ∷ []))
  gains_more a b c first second = rw texts_more (gains_last a b c (message_text form message) _ (gains_front a b (message_texts form messages) (message_text form message) first) second)

  -- what it gains by a front of it
  pub gains_part : (a b c : Option (List ℕ)) → Gains a b (message_texts form messages) → GainsPrefix b c (message_text form message)
      → GainsPrefix a c (message_texts form (messages ++ message ∷ []))
  gains_part a b c first second = rw texts_more (prefix_join a b c (message_text form message) _ (gains_front a b (message_texts form messages) (message_text form message) first) second)

-- the place behind one frame more
pub next_place : (count : ℕ) → one_more (one_more count) ≡ one_more (count + 1)
next_place count = omega arith

module _ (form : EventForm) (taken rest : List ℕ) (place : ℕ) (a b : Option (List ℕ)) (shown : Shows form taken rest place a b) where
  -- a front is shown
  pub shows_part : ShowsPart form taken a b
  shows_part = record { messages = shown.messages; rest = rest; begin = shown.begin; spelled = shown.spelled; gains = prefix_from_whole a b (message_texts form shown.messages) shown.gains }

  module _ (message : Parts) (others : List ℕ) (first : first_of rest ≡ begins message others) (spelled : is_spelled form message ≡ true) where
    begin_one : Begin (shown.messages ++ message ∷ []) taken others
    begin_one = begin_join shown.messages (message ∷ []) taken rest others shown.begin (others, first, refl)

    -- one message more is shown
    pub shows_one : (next : ℕ) (c : Option (List ℕ)) → next ≡ one_more place → Gains b c (message_text form message) → Shows form taken others next a c
    shows_one next c placed gains = record {
      messages = shown.messages ++ message ∷ [];
      begin = begin_one;
      spelled = spelled_more form shown.messages message shown.spelled spelled;
      placed = placed ∙ ap one_more shown.placed ∙ next_place (length shown.messages) ∙ ap one_more (sym (length-append shown.messages (message ∷ [])));
      gains = gains_more form shown.messages message a b c shown.gains gains;
    }

    -- a front of one message more is shown
    pub shows_one_part : (c : Option (List ℕ)) → GainsPrefix b c (message_text form message) → ShowsPart form taken a c
    shows_one_part c gains = record {
      messages = shown.messages ++ message ∷ [];
      rest = others;
      begin = begin_one;
      spelled = spelled_more form shown.messages message shown.spelled spelled;
      gains = gains_part form shown.messages message a b c shown.gains gains;
    }

-- ## Frames

-- nothing was read
pub start_shown : (form : EventForm) (held : Option (List ℕ)) (frames : Frames) → frames.waiting.bytes ≡ [] → frames.place ≡ 1 → ShowsUpTo form [] frames held held
start_shown form held frames none first = rw (none, first) (shows_none form held)

pub start_unfinished : (frames : Frames) → frames.waiting.bytes ≡ [] → WaitsUnfinished frames
start_unfinished frames none = rw none (first_short [] (lit< tt))

pub start_few : (frames : Frames) → frames.waiting.bytes ≡ [] → length frames.waiting.bytes < most_frame
start_few frames none = rw none (lit< tt)

-- a read that took nothing
pub no_more : (all : Option (List ℕ)) (read : List ℕ) (n : ℕ) (into : List ℕ) (now : Option (List ℕ)) → n ≡ 0 → IsCutOf all (read ++ take n into) now → IsCutOf all read now
no_more all read n into now none cut =
    let same : read ++ take n into ≡ read = ap (λ (m : ℕ). read ++ take m into) none ∙ append-nil read in subst (λ (bytes : List ℕ). IsCutOf all bytes now) same cut

-- bytes that were taken
pub shows_pushed : (form : EventForm) (taken piece : List ℕ) (old : Frames) (bytes : List ℕ) (before now : Option (List ℕ)) → bytes ≡ old.waiting.bytes ++ piece → ShowsUpTo form taken old before now
    → Shows form (taken ++ piece) bytes old.place before now
shows_pushed form taken piece old bytes before now pushed shown = rw pushed (shows_more form taken old.waiting.bytes piece old.place before now shown)

-- a message that was written
pub shows_next : (form : EventForm) (taken : List ℕ) (old : Frames) (first before now : Option (List ℕ)) (message : Parts) (n : ℕ) (bytes : List ℕ) (place : ℕ)
    → ShowsUpTo form taken old first before → first_of old.waiting.bytes ≡ begins message (drop n old.waiting.bytes) → bytes ≡ drop n old.waiting.bytes → place ≡ one_more old.place
    → (is_spelled form message ≡ true) × Gains before now (message_text form message) → Shows form taken bytes place first now
shows_next form taken old first before now message n bytes place shown found dropped placed wrote =
    rw dropped (shows_one form taken old.waiting.bytes old.place first before shown message (drop n old.waiting.bytes) found wrote.0 place now placed wrote.1)

-- fewer bytes wait then
pub waits_fewer : (old : Frames) (message : Parts) (n : ℕ) (bytes : List ℕ) → first_of old.waiting.bytes ≡ begins message (drop n old.waiting.bytes) → bytes ≡ drop n old.waiting.bytes
    → length bytes < length old.waiting.bytes
waits_fewer old message n bytes found dropped = rw dropped (shorter old.waiting.bytes message (drop n old.waiting.bytes) found)

-- a front of what is shown, however the bytes go on
pub part_more : (form : EventForm) (taken piece : List ℕ) (old : Frames) (before now : Option (List ℕ)) → ShowsUpTo form taken old before now → ShowsPart form (taken ++ piece) before now
part_more form taken piece old before now shown =
    shows_part form (taken ++ piece) (old.waiting.bytes ++ piece) old.place before now (shows_more form taken old.waiting.bytes piece old.place before now shown)

-- where decoding stops the run ends
pub stops_ends : (form : EventForm) (bytes : List ℕ) (left : Option (List ℕ)) (status : EventsStatus) (before now : Option (List ℕ)) → StopsDecoding form bytes status before now
    → EndsDecoding form bytes left status before now
stops_ends form bytes left (WrongFrame place error) before now stops = stops
stops_ends form bytes left (Unspelled place) before now stops = stops
stops_ends form bytes left (Ended OutputFault) before now stops = stops
stops_ends form bytes left (Ended NoMemory) before now stops = stops
stops_ends form bytes left other before now stops = absurd stops

-- how a message that isn't written stops decoding
pub unwritten_stops : (form : EventForm) (taken : List ℕ) (frames : Frames) (first before now : Option (List ℕ)) (message : Parts) (others : List ℕ) (status : EventsStatus)
    → ShowsUpTo form taken frames first before → first_of frames.waiting.bytes ≡ begins message others → WritesMessage form frames.place message before now (Err status)
    → StopsDecoding form taken status first now
unwritten_stops form taken frames first before now message others (Unspelled at) shown found writes =
    let there : Shows form taken frames.waiting.bytes at first before = rw writes.1 shown in
    (frames.waiting.bytes, rw writes.2 there, message, others, found, writes.0)
unwritten_stops form taken frames first before now message others (Ended OutputFault) shown found writes =
    shows_one_part form taken frames.waiting.bytes frames.place first before shown message others found writes.0 now writes.1
unwritten_stops form taken frames first before now message others (Ended NoMemory) shown found (inl same) = rw same (shows_part form taken frames.waiting.bytes frames.place first before shown)
unwritten_stops form taken frames first before now message others (Ended NoMemory) shown found (inr writes) =
    shows_one_part form taken frames.waiting.bytes frames.place first before shown message others found writes.0 now writes.1
unwritten_stops form taken frames first before now message others status shown found writes = absurd writes

-- how a frame that isn't read stops decoding
pub wrong_stops : (form : EventForm) (taken : List ℕ) (frames : Frames) (first now : Option (List ℕ)) (error : Error) → ShowsUpTo form taken frames first now
    → (first_of frames.waiting.bytes ≡ fault (error_kind error)) ⊎ (error_kind error ≡ kind.NoMemory) → StopsDecoding form taken (wrong_frame frames.place error) first now
wrong_stops form taken frames first now error shown (inr none) =
    rw none (shows_part form taken frames.waiting.bytes frames.place first now shown)
wrong_stops form taken frames first now error shown (inl is) = by_kind (error_kind error) refl
  where
    wrong : StopsDecoding form taken (WrongFrame frames.place error) first now
    wrong = (frames.waiting.bytes, shown, is)

    by_kind : (k : ErrorKind) → error_kind error ≡ k → StopsDecoding form taken (wrong_frame_of frames.place error k) first now
    by_kind kind.NoMemory none = shows_part form taken frames.waiting.bytes frames.place first now shown
    by_kind kind.HeadersTooLong none = wrong
    by_kind kind.HeaderValueTooLong none = wrong
    by_kind kind.InvalidHeaderNameLength none = wrong
    by_kind kind.InvalidHeaderValue none = wrong
    by_kind (kind.InvalidHeaderValueType byte) none = wrong
    by_kind kind.InvalidHeadersLength none = wrong
    by_kind kind.InvalidMessageLength none = wrong
    by_kind kind.InvalidUtf8String none = wrong
    by_kind (kind.MessageChecksumMismatch computed carried) none = wrong
    by_kind kind.MessageTooLong none = wrong
    by_kind kind.PayloadTooLong none = wrong
    by_kind (kind.PreludeChecksumMismatch computed carried) none = wrong
    by_kind (kind.TimestampValueTooLarge moment) none = wrong
    by_kind (kind.Marshalling text) none = wrong
    by_kind (kind.Unmarshalling text) none = wrong
