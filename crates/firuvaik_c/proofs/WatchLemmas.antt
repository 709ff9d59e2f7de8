-- What the watch of a chain says of a frame alone.
use Rattle.std.proofs.Common.{◌≡◌, ◌⊎◌, ℕ, ◌+◌, ◌-◌, ◌≤◌, ◌==◌, nat_lt, Bool, true, false, List, [], ◌∷◌, length, take, drop, Option, Some, None, Ok, Err, inl, inr, refl, sym, ap, ◌∙◌, option_map, arith}
use Rattle.std.specs.Prelude.{Result, ◌&&◌, bytes_eq, codes, if◌then◌else◌}
use Rattle.std.specs.Option.{option_and_then}
use Rattle.std.specs.Str.{is_utf8}
use Rattle.std.proofs.Math.Seq.{drop-length}
use Rattle.std.proofs.lemmas.Bool.{eq-eqb, eqb-true, ltb-false}
use Rattle.std.proofs.lemmas.List.{length-drop, take_all}
use Rattle.hex.specs.Hex.{encode_lower}
use Rattle.smithy_core.specs.Header.{Header}
use Rattle.smithy_core.specs.HeaderValue.{byte_array_of}
use Rattle.smithy_core.specs.Message.{Parts}
use Rattle.smithy_core.specs.Moment.{Instant}
use Rattle.eventstream.specs.Bind.{◌>>=◌}
use Rattle.eventstream.specs.Key.{Signer}
use Rattle.eventstream.specs.Link.{link_code, carried_date}
use Rattle.eventstream.specs.Read.{announced, checked_message, headers_within, read, read_after, read_frame, read_prelude}
use Rattle.eventstream.specs.Reading.{as_first, begins, first_of, nothing}
use Rattle.eventstream.specs.declared.error.ErrorKind.{ErrorKind}
use Rattle.eventstream.specs.declared.error.ErrorKind.TheVariants.{InvalidMessageLength}
use Rattle.eventstream.specs.declared.read.lengths.Lengths.{Lengths}
use Rattle.eventstream.proofs.FrontLemmas.{announced_prelude, first_whole, prelude_told}
use Rattle.eventstream.proofs.TestLemmas.{bound, ok_same, refused_or}
use Rattle.chain_watch.specs.Walk.{Passed, carried, carried_code, frame_test, inner_event, signed_moment, stays, walk_frames, walk_onto, walk_passed, walk_tested}
use Rattle.chain_watch.specs.Watch.{Feeds, Watching, new_watch, state, unwalked}
use Rattle.chain_watch.specs.declared.chain_fault.ChainFault.{ChainFault}
use Rattle.chain_watch.specs.declared.chain_fault.ChainFault.TheVariants.{NoMemory, NotChain}
use Rattle.chain_watch.specs.declared.chain_fault.ChainPart.TheVariants.{Date, Headers, Inner}
use Rattle.chain_watch.specs.declared.watch.Watched.{Watched}
use Rattle.chain_watch.proofs.AcceptedLemmas.{compared_split, there}
use Rattle.chain_watch.proofs.WalkLemmas.{nothing_first, walk_first, walk_tests}
use Rattle.firuvaik_c.specs.Faults.{not_text, no_memory}
use Rattle.firuvaik_c.specs.Links.{is_text_scope, key_signer}
use Rattle.firuvaik_c.specs.Watching.{LacksCode, TestsOne, chain_fault, first_code, lent_signature, next_signature, more_than_frame, passed_signature}
use Rattle.firuvaik_c.specs.declared.fault.Fault.{Fault}
use Rattle.firuvaik_c.specs.declared.lent.Signer.{Signer as LentSigner}

-- ## A frame alone

-- the lengths of a frame that was read: it is there whole
record IsTotal (bytes : List ℕ) (found : Parts × ℕ) : Type 0 where
  lengths : Lengths
  spelled : read_prelude (take 12 bytes) ≡ Ok lengths
  total : lengths.total ≡ found.1
  announces : found.1 ≡ announced bytes
  whole : found.1 ≤ length bytes

read_total : (bytes : List ℕ) (found : Parts × ℕ) → read bytes ≡ Ok found → IsTotal bytes found
unfolding read read_after read_frame
read_total bytes found is =
    let prelude = take 12 bytes in
    let rest = drop 12 bytes in
    let some = refused_or (nat_lt (length bytes) 12) InvalidMessageLength (read_after prelude rest) found is in
    let spelled = bound (read_prelude prelude) (λ lengths. read_frame lengths prelude rest) found some.1 in
    let whole = refused_or (nat_lt (12 + length rest) spelled.0.total) InvalidMessageLength _ found spelled.2 in
    let headed = bound (headers_within spelled.0.headers spelled.0.headers rest) (λ headers. checked_message spelled.0 prelude rest headers >>= λ message. Ok (message, spelled.0.total)) found whole.1 in
    let checked = bound (checked_message spelled.0 prelude rest headed.0) (λ message. Ok (message, spelled.0.total)) found headed.2 in
    let same : spelled.0.total ≡ found.1 = ap (λ (f : Parts × ℕ). f.1) (ok_same (checked.0, spelled.0.total) found checked.2) in
    record {
      lengths = spelled.0;
      spelled = spelled.1;
      total = same;
      announces = sym same ∙ (prelude_told prelude spelled.0 spelled.1).total ∙ announced_prelude bytes;
      whole = omega (arith, same, ltb-false _ _ whole.0, ltb-false _ _ some.0, length-drop 12 bytes);
    }

-- how much is behind a frame that was read
pub read_within : (bytes : List ℕ) (message : Parts) (n : ℕ) → read bytes ≡ Ok (message, n) → n ≤ length bytes
read_within bytes message n is = (read_total bytes (message, n) is).whole

-- the frame is as long as it announces
pub read_announced : (bytes : List ℕ) (message : Parts) (n : ℕ) → read bytes ≡ Ok (message, n) → n ≡ announced bytes
read_announced bytes message n is = (read_total bytes (message, n) is).announces

-- a frame behind which nothing is left is alone
pub one_alone : (bytes rest : List ℕ) (message : Parts) → read bytes ≡ Ok (message, announced bytes) → rest ≡ drop (announced bytes) bytes → length rest ≡ 0
    → read bytes ≡ Ok (message, length bytes)
one_alone bytes rest message is left none =
    let whole = read_within bytes message (announced bytes) is in
    let behind : length bytes - announced bytes ≡ 0 = sym (length-drop (announced bytes) bytes) ∙ ap (λ (text : List ℕ). length text) (sym left) ∙ none in
    let all : announced bytes ≡ length bytes = omega (arith, behind, whole) in
    is ∙ ap (λ (n : ℕ). Ok (message, n)) all

-- a frame alone begins with its message, and nothing follows
pub one_first : (bytes : List ℕ) (message : Parts) → read bytes ≡ Ok (message, length bytes) → first_of bytes ≡ begins message []
one_first bytes message is =
    let total = read_total bytes (message, length bytes) is in
    let n = total.lengths.total in
    let all : take n bytes ≡ bytes = take_all n bytes (omega (arith, total.total)) in
    let none : drop n bytes ≡ [] = ap (λ (k : ℕ). drop k bytes) total.total ∙ drop-length bytes in
    first_whole bytes total.lengths total.spelled (omega (arith, total.total)) ∙ ap (λ (front : List ℕ). as_first n bytes (read front)) all
    ∙ ap (as_first n bytes) is ∙ ap (begins message) none

-- ## What the watch says

-- the state behind a frame alone: it passes, or this is its fault
abbrev SaysState : Result Passed ChainFault → Result Watched ChainFault → Type 0
SaysState (Ok passed) (Ok watched) = Unit {0}
SaysState (Ok passed) (Err reported) = ⊥
SaysState (Err fault) (Ok watched) = ⊥
SaysState (Err fault) (Err reported) = reported ≡ fault

passed_state : (signer : Signer) (passed : Passed) (signature : List ℕ) (event : Option Parts)
    → SaysState (Ok passed) (state (walk_passed (walk_frames signer) 1 [] signature event).at)
passed_state signer passed signature None = tt
passed_state signer passed signature (Some event) = rw (walk_first signer signature 1 [] nothing nothing_first) tt

tested_state : (signer : Signer) (answer : Result Passed ChainFault) → SaysState answer (state (walk_tested (walk_frames signer) 0 [] answer).at)
tested_state signer (Ok passed) = passed_state signer passed passed.signature passed.event
tested_state signer (Err fault) = refl

-- what a watch says of a frame alone, or memory ran out
abbrev pub SaysOf : Result Passed ChainFault → Result Watched ChainFault → Type 0
SaysOf (Ok passed) (Ok watched) = Unit {0}
SaysOf (Ok passed) (Err reported) = reported ≡ NoMemory
SaysOf (Err fault) (Ok watched) = ⊥
SaysOf (Err fault) (Err reported) = (reported ≡ fault) ⊎ (reported ≡ NoMemory)

said : (answer : Result Passed ChainFault) (watched : Result Watched ChainFault) → SaysState answer watched → SaysOf answer watched
said (Ok passed) (Ok watched) says = tt
said (Ok passed) (Err reported) says = absurd says
said (Err fault) (Ok watched) says = absurd says
said (Err fault) (Err reported) says = inl says

wanting : (answer : Result Passed ChainFault) → SaysOf answer (Err NoMemory)
wanting (Ok passed) = refl
wanting (Err fault) = inr refl

pub feeds_tested : (signer : Signer) (seed bytes : List ℕ) (message : Parts) (new : Watching) (gained : List Parts) (result : Result Watched ChainFault)
    → first_of bytes ≡ begins message [] → Feeds (new_watch signer seed) bytes [] new gained result → SaysOf (frame_test signer seed 1 message) result
feeds_tested signer seed bytes message new gained result first (inr refused) = rw refused.0 (wanting (frame_test signer seed 1 message))
feeds_tested signer seed bytes message new gained result first (inl fed) = by_answer fed.answer
  where
    by_answer : ((unwalked new ≡ stays new.at) × (result ≡ state new.at)) ⊎ (result ≡ Err NoMemory) → SaysOf (frame_test signer seed 1 message) result
    by_answer (inr memory) = rw memory (wanting (frame_test signer seed 1 message))
    by_answer (inl is) =
        let answer = frame_test signer seed 1 message in
        let walked : walk_onto fed.handed.given (unwalked new) ≡ walk_tested (walk_frames signer) 0 [] answer =
        sym fed.handed.split ∙ walk_tests signer seed 0 bytes [] message answer first refl in
        let at : new.at ≡ (walk_tested (walk_frames signer) 0 [] answer).at = ap (λ w. w.at) (sym is.0) ∙ ap (λ w. w.at) walked in
        rw (is.1, at) (said answer _ (tested_state signer answer))

-- and so is the number of its fault
pub tests_one : (answer : Result Passed ChainFault) (reported : ChainFault) (fault : Fault) → SaysOf answer (Err reported) → fault ≡ chain_fault reported → TestsOne answer (Err fault)
tests_one (Ok passed) reported fault says is = is ∙ ap chain_fault says
tests_one (Err other) reported fault (inl same) is = inl (is ∙ ap chain_fault same)
tests_one (Err other) reported fault (inr memory) is = inr (is ∙ ap chain_fault memory)

pub tests_passed : (answer : Result Passed ChainFault) (watched : Watched) (done : Unit {0}) → SaysOf answer (Ok watched) → TestsOne answer (Ok done)
tests_passed (Ok passed) watched done says = tt
tests_passed (Err fault) watched done says = absurd says

-- ## The signature of a frame that passes

some_then : {A B : Type 0} (found : Option A) (others : A → Option B) (y : B) → option_and_then others found ≡ Some y → (x : A) × (found ≡ Some x) × (others x ≡ Some y)
some_then (Some x) others y is = (x, refl, is)
some_then None others y is = cc

abbrev first_or : Option (List ℕ × Instant) → List ℕ
first_or (Some pair) = pair.0
first_or None = []

first_same : (x code : List ℕ) (found : Option Instant) (date : Instant) → option_map {U = List ℕ × Instant} (λ d. (x, d)) found ≡ Some (code, date) → x ≡ code
first_same x code (Some d) date is = ap first_or is
first_same x code None date is = cc

long_code : (bytes code : List ℕ) → (if length bytes == 32 then Some bytes else None) ≡ Some code → (bytes ≡ code) × (length code ≡ 32)
long_code bytes code = by_test (length bytes == 32) refl
  where
    by_test : (test : Bool) → (length bytes == 32) ≡ test → (if test then Some bytes else None) ≡ Some code → (bytes ≡ code) × (length code ≡ 32)
    by_test true long is =
        let same : bytes ≡ code = cc in (same, ap (λ (text : List ℕ). length text) (sym same) ∙ eqb-true _ _ long)
    by_test false long is = cc

code_first : (header : Header) (code : List ℕ) → carried_code header ≡ Some code → (byte_array_of header.value ≡ Some code) × (length code ≡ 32)
code_first header code = by_name (bytes_eq header.name (codes ":chunk-signature"))
  where
    by_name : (test : Bool) → (if test then option_and_then (λ code. if length code == 32 then Some code else None) (byte_array_of header.value) else None) ≡ Some code
        → (byte_array_of header.value ≡ Some code) × (length code ≡ 32)
    by_name true is =
        let array = some_then (byte_array_of header.value) (λ code. if length code == 32 then Some code else None) code is in
        let long = long_code array.0 code array.2 in
        (array.1 ∙ ap Some long.0, long.1)
    by_name false is = cc

carried_first : (headers : List Header) (code : List ℕ) (date : Instant) → carried headers ≡ Some (code, date) → (first_code headers ≡ Some code) × (length code ≡ 32)
carried_first [] code date is = cc
carried_first (first ∷ []) code date is = cc
carried_first (first ∷ second ∷ []) code date is =
    let found = some_then (carried_code first) (λ code. option_map {U = List ℕ × Instant} (λ date. (code, date)) (carried_date second)) (code, date) is in
    let same = first_same found.0 code (carried_date second) date found.2 in
    code_first first code (found.1 ∙ ap Some same)
carried_first (first ∷ second ∷ third ∷ headers) code date is = cc

-- a frame that passes carries its signature
pub passed_code : (signer : Signer) (signature : List ℕ) (place : ℕ) (message : Parts) (passed : Passed) → frame_test signer signature place message ≡ Ok passed
    → (code : List ℕ) × (first_code message.headers ≡ Some code) × (length code ≡ 32) × (passed.signature ≡ encode_lower code)
unfolding frame_test
passed_code signer signature place message passed is =
    let headers = there (carried message.headers) (NotChain place Headers) _ passed is in
    let date = there (signed_moment headers.0.1) (NotChain place Date) _ passed headers.2 in
    let event = there (inner_event message.payload) (NotChain place Inner) _ passed date.2 in
    let same = compared_split place headers.0.0 (link_code signer signature message.payload date.0) event.0 passed event.2 in
    let first = carried_first message.headers headers.0.0 headers.0.1 headers.1 in
    (headers.0.0, first.0, first.1, ap (λ (p : Passed). p.signature) same.1 ∙ ap encode_lower (sym same.0))

-- ## The answer

lent_if : (texts : Bool) (answer : Result (List ℕ) Fault) → texts ≡ true → (if texts then answer else Err not_text) ≡ answer
lent_if texts answer is = rw is refl

alone_if : (alone : Bool) (answer : Result (List ℕ) Fault) → alone ≡ true → (if alone then answer else Err more_than_frame) ≡ answer
alone_if alone answer is = rw is refl

texts_both : (scope code : Bool) → scope ≡ true → code ≡ true → (scope && code) ≡ true
texts_both scope code s c = rw (s, c) refl

-- texts that are, and what was read
pub by_read : (signer : LentSigner) (before bytes : List ℕ) (found : Result (Parts × ℕ) ErrorKind) → is_text_scope signer ≡ true → is_utf8 before ≡ true → read bytes ≡ found
    → lent_signature signer before bytes ≡ next_signature (key_signer signer) before bytes found
by_read signer before bytes found scope code is =
    lent_if (is_text_scope signer && is_utf8 before) (next_signature (key_signer signer) before bytes (read bytes)) (texts_both (is_text_scope signer) (is_utf8 before) scope code)
    ∙ ap (next_signature (key_signer signer) before bytes) is

-- a frame alone is answered by its tests
pub by_tests : (signer : LentSigner) (before bytes : List ℕ) (message : Parts) → is_text_scope signer ≡ true → is_utf8 before ≡ true → read bytes ≡ Ok (message, length bytes)
    → lent_signature signer before bytes ≡ passed_signature (frame_test (key_signer signer) before 1 message)
by_tests signer before bytes message scope code is =
    by_read signer before bytes (Ok (message, length bytes)) scope code is
    ∙ alone_if (length bytes == length bytes) (passed_signature (frame_test (key_signer signer) before 1 message)) (eq-eqb (length bytes) (length bytes) refl)

-- the tests are failed
pub tests_failed : (signer : LentSigner) (before bytes : List ℕ) (answer : Result Passed ChainFault) (fault : Fault) → lent_signature signer before bytes ≡ passed_signature answer
    → TestsOne answer (Err fault) → (lent_signature signer before bytes ≡ Err fault) ⊎ (fault ≡ no_memory)
tests_failed signer before bytes (Ok passed) fault is memory = inr memory
tests_failed signer before bytes (Err reason) fault is (inl same) = inl (is ∙ ap (λ (f : Fault). Err f) (sym same))
tests_failed signer before bytes (Err reason) fault is (inr memory) = inr memory

-- a frame that passes has the signature that it carries
pub tests_signed : (signer : LentSigner) (before bytes : List ℕ) (message : Parts) (digits code : List ℕ) (who : Signer) (done : Unit {0})
    → lent_signature signer before bytes ≡ passed_signature (frame_test who before 1 message) → TestsOne (frame_test who before 1 message) (Ok done)
    → first_code message.headers ≡ Some code → digits ≡ encode_lower code → lent_signature signer before bytes ≡ Ok digits
tests_signed signer before bytes message digits code who done is tests carries digits_are = by_answer (frame_test who before 1 message) refl is tests
  where
    by_answer : (answer : Result Passed ChainFault) → frame_test who before 1 message ≡ answer → lent_signature signer before bytes ≡ passed_signature answer
        → TestsOne answer (Ok done) → lent_signature signer before bytes ≡ Ok digits
    by_answer (Ok passed) tested answered ok =
        let found = passed_code who before 1 message passed tested in
        let somes : Some found.0 ≡ Some code = sym found.1 ∙ carries in
        let same : found.0 ≡ code = cc in
        answered ∙ ap (λ (text : List ℕ). Ok text) (found.3 ∙ ap encode_lower same ∙ sym digits_are)
    by_answer (Err fault) tested answered ok = absurd ok

tests_carry : (message : Parts) (before : List ℕ) (who : Signer) (done : Unit {0}) → TestsOne (frame_test who before 1 message) (Ok done) → LacksCode message.headers → ⊥
tests_carry message before who done tests lacks = by_answer (frame_test who before 1 message) refl tests
  where
    by_answer : (answer : Result Passed ChainFault) → frame_test who before 1 message ≡ answer → TestsOne answer (Ok done) → ⊥
    by_answer (Ok passed) tested ok = let found = passed_code who before 1 message passed tested in lacks found.0 found.1 found.2
    by_answer (Err fault) tested ok = ok

-- and carries one, unless memory ran out
pub carries_or_wants : (message : Parts) (before : List ℕ) (who : Signer) (done : Unit {0}) (fault : Fault) → TestsOne (frame_test who before 1 message) (Ok done)
    → LacksCode message.headers ⊎ (fault ≡ no_memory) → fault ≡ no_memory
carries_or_wants message before who done fault tests (inl lacks) = absurd (tests_carry message before who done tests lacks)
carries_or_wants message before who done fault tests (inr memory) = memory
