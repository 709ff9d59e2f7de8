-- What is accepted is a chain.
use Rattle.std.proofs.Common.{◌≡◌, ◌↔◌, inl, inr, ℕ, zero, suc, ◌+◌, ◌<◌, ◌≤◌, Bool, true, false, List, [], ◌∷◌, ◌++◌, length, All, Option, Some, None, Result, Ok, Err, refl, sym, ap, subst, ◌∙◌, append_assoc, arith}
use Rattle.std.specs.Prelude.{◌==◌, ◌&&◌, bytes_eq, codes, if◌then◌else◌, is_none, ok_or, option_and_then, option_map}
use Rattle.std.specs.Global.{Vec}
use Rattle.std.specs.List.{concat}
use Rattle.std.proofs.lemmas.Bool.{eqb-true}
use Rattle.std.proofs.lemmas.Slice.Eq.{bytes_eq-Decides}
use Rattle.hex.specs.Hex.{encode_lower}
use Rattle.smithy_core.specs.Civil.{IsInYears, is_in_years}
use Rattle.smithy_core.specs.Header.{Header}
use Rattle.smithy_core.specs.HeaderValue.{byte_array_of, instant_of}
use Rattle.smithy_core.specs.Message.{Parts}
use Rattle.smithy_core.specs.Moment.{Instant, floor_secs}
use Rattle.smithy_core.specs.declared.header.HeaderValue.{HeaderValue}
use Rattle.smithy_core.specs.declared.header.HeaderValue.TheVariants.{ByteArray, Timestamp}
use Rattle.smithy_core.proofs.YearLemmas.{in_years}
use Rattle.eventstream.specs.Bind.{◌>>=◌}
use Rattle.eventstream.specs.Frame.{frame, frame_len, unframed}
use Rattle.eventstream.specs.Key.{Signer}
use Rattle.eventstream.specs.Laws.{IsProper, floored_message}
use Rattle.eventstream.specs.Link.{chain, date_header, link_code, link_message, link_signature, carried_date}
use Rattle.eventstream.specs.Read.{read}
use Rattle.eventstream.specs.Reading.{First, begins, fault, first_of, leftover, nothing, reading, reading_within}
use Rattle.eventstream.specs.declared.error.ErrorKind.{ErrorKind}
use Rattle.eventstream.proofs.LinkLemmas.{code_header, length-link, link_framed}
use Rattle.eventstream.proofs.ReadingLemmas.{goes_on, shorter}
use Rattle.chain_watch.specs.Chain.{IsByte, IsChainOf, AnswersEvents, carried_moments}
use Rattle.chain_watch.specs.Walk.{AnswersChain, Passed, after_closing, carried, carried_code, chain_events, compared, frame_test, framed_message, if_framed, inner_event, signed_moment, walk_frames, walk_on, walk_outcome, walk_tested}
use Rattle.chain_watch.specs.declared.chain_fault.ChainFault.{ChainFault}
use Rattle.chain_watch.specs.declared.chain_fault.ChainFault.TheVariants.{Mismatch, NotChain}
use Rattle.chain_watch.specs.declared.chain_fault.ChainPart.TheVariants.{Date, Headers, Inner}
use Rattle.chain_watch.proofs.SpelledLemmas.{first_split, read_split}
use Rattle.chain_watch.proofs.WalkLemmas.{closing_passes, event_passes, nothing_first, starts, walk_goes}
use Rattle.chain_watch.proofs.WrittenLemmas.{written_accepted}

-- ## The tests of a frame

abbrev passing : {A : Type 0} → A → Result A ChainFault
passing x = Ok x

passed_same : {A : Type 0} (x y : A) → passing x ≡ passing y → x ≡ y
passed_same x y is = cc

-- what is there, else the fault
pub there : {A B : Type 0} (found : Option A) (told : ChainFault) (others : A → Result B ChainFault) (y : B) → (ok_or found told >>= others) ≡ Ok y
    → (x : A) × (found ≡ Some x) × (others x ≡ Ok y)
there (Some x) told others y is = (x, refl, is)
there None told others y is = cc

pub compared_split : (place : ℕ) (code recomputed : List ℕ) (event : Option Parts) (passed : Passed) → compared place code recomputed event ≡ Ok passed
    → (code ≡ recomputed) × (passed ≡ record { event = event; signature = encode_lower recomputed })
compared_split place code recomputed event passed is = by_test (bytes_eq code recomputed) refl is
  where
    by_test : (same : Bool) → bytes_eq code recomputed ≡ same → (if same then Ok (record { event = event; signature = encode_lower recomputed }) else Err (Mismatch place code recomputed)) ≡ Ok passed
        → (code ≡ recomputed) × (passed ≡ record { event = event; signature = encode_lower recomputed })
    by_test true test is = ((bytes_eq-Decides code recomputed).0 test, sym (passed_same _ _ is))
    by_test false test is = cc

code_split : (name : List ℕ) (value : HeaderValue) (code : List ℕ) → carried_code (record { name = name; value = value }) ≡ Some code
    → (record { name = name; value = value } ≡ code_header code) × (length code ≡ 32)
code_split name value code is = by_name (bytes_eq name (codes ":chunk-signature")) refl value is
  where
    by_length : (bytes : List ℕ) (long : Bool) → (length bytes == 32) ≡ long → name ≡ codes ":chunk-signature" → (if long then Some bytes else None) ≡ Some code
        → (record { name = name; value = ByteArray bytes } ≡ code_header code) × (length code ≡ 32)
    by_length bytes true test named is =
        let same : bytes ≡ code = cc in
        rw (named, ← same) (refl, eqb-true _ _ test)
    by_length bytes false test named is = cc

    by_name : (named : Bool) → bytes_eq name (codes ":chunk-signature") ≡ named → (value : HeaderValue)
        → (if named then option_and_then (λ code. if length code == 32 then Some code else None) (byte_array_of value) else None) ≡ Some code
        → (record { name = name; value = value } ≡ code_header code) × (length code ≡ 32)
    by_name true test (ByteArray bytes) is = by_length bytes (length bytes == 32) refl ((bytes_eq-Decides name (codes ":chunk-signature")).0 test) is
    by_name true test value is = cc
    by_name false test value is = cc

date_split : (name : List ℕ) (value : HeaderValue) (at : Instant) → carried_date (record { name = name; value = value }) ≡ Some at → record { name = name; value = value } ≡ date_header at
date_split name value at is = by_name (bytes_eq name (codes ":date")) refl value is
  where
    by_name : (named : Bool) → bytes_eq name (codes ":date") ≡ named → (value : HeaderValue) → (if named then instant_of value else None) ≡ Some at
        → record { name = name; value = value } ≡ date_header at
    by_name true test (Timestamp t) is =
        let same : t ≡ at = cc in
        rw ((bytes_eq-Decides name (codes ":date")).0 test, same) refl
    by_name true test value is = cc
    by_name false test value is = cc

-- headers that carry a code and a moment
carried_split : (headers : List Header) (found : List ℕ × Instant) → carried headers ≡ Some found
    → (headers ≡ code_header found.0 ∷ date_header found.1 ∷ []) × (length found.0 ≡ 32)
carried_split [] found is = cc
carried_split (first ∷ []) found is = cc
carried_split (first ∷ second ∷ []) found is = by_code (carried_code first) refl is
  where
    by_date : (code : List ℕ) (date : Option Instant) → carried_code first ≡ Some code → carried_date second ≡ date → option_map (λ at. (code, at)) date ≡ Some found
        → (first ∷ second ∷ [] ≡ code_header found.0 ∷ date_header found.1 ∷ []) × (length found.0 ≡ 32)
    by_date code None coded dated is = cc
    by_date code (Some at) coded dated is =
        let same : (code, at) ≡ found = cc in
        let code_is = code_split first.name first.value code coded in
        let date_is = date_split second.name second.value at dated in
        rw (← same) (rw (code_is.0, date_is) refl, code_is.1)

    by_code : (code : Option (List ℕ)) → carried_code first ≡ code → option_and_then (λ code. option_map (λ at. (code, at)) (carried_date second)) code ≡ Some found
        → (first ∷ second ∷ [] ≡ code_header found.0 ∷ date_header found.1 ∷ []) × (length found.0 ≡ 32)
    by_code None coded is = cc
    by_code (Some code) coded is = by_date code (carried_date second) coded refl is
carried_split (first ∷ second ∷ third ∷ others) found is = cc

-- a whole second in the years
moment_split : (t at : Instant) → signed_moment t ≡ Some at → (at ≡ t) × (floor_secs t ≡ t) × IsInYears t
moment_split t at is = by_tests (t.nanos == 0) (is_in_years t) refl refl is
  where
    by_tests : (whole within : Bool) → (t.nanos == 0) ≡ whole → is_in_years t ≡ within → (if whole && within then Some t else None) ≡ Some at
        → (at ≡ t) × (floor_secs t ≡ t) × IsInYears t
    by_tests true true whole within is =
        let same : at ≡ t = cc in
        (same, ap (λ (n : ℕ). record { secs = t.secs; nanos = n }) (sym (eqb-true _ _ whole)), in_years t within)
    by_tests true false whole within is = cc
    by_tests false within_is whole within is = cc

-- a frame that passed is that of a link
record IsLinkOf (signer : Signer) (signature : List ℕ) (message : Parts) (passed : Passed) (at : Instant) : Type 0 where
  years : IsInYears at
  carries : (code : List ℕ) × (carried message.headers ≡ Some (code, at))
  link : message ≡ link_message signer signature message.payload at
  inner : inner_event message.payload ≡ Some passed.event
  next : passed.signature ≡ link_signature signer signature message.payload at

link_split : (signer : Signer) (signature : List ℕ) (place : ℕ) (message : Parts) (passed : Passed) (code : List ℕ) (at date : Instant) (event : Option Parts)
    → carried message.headers ≡ Some (code, at) → signed_moment at ≡ Some date → inner_event message.payload ≡ Some event
    → compared place code (link_code signer signature message.payload date) event ≡ Ok passed → IsLinkOf signer signature message passed at
unfolding link_message link_signature
link_split signer signature place message passed code at date event headers moment payload is =
    let same = moment_split at date moment in
    let tested = compared_split place code (link_code signer signature message.payload date) event passed is in
    let carries = carried_split message.headers (code, at) headers in
    let recomputed : code ≡ link_code signer signature message.payload at = tested.0 ∙ ap (link_code signer signature message.payload) same.0 in
    record {
      years = same.2;
      carries = (code, headers);
      link =
          ap (λ (found : List Header). record { headers = found; payload = message.payload }) carries.0
          ∙ ap (λ (c : List ℕ). record { headers = code_header c ∷ date_header at ∷ []; payload = message.payload }) recomputed
          ∙ ap (λ (t : Instant). record { headers = code_header (link_code signer signature message.payload at) ∷ date_header t ∷ []; payload = message.payload }) (sym same.1);
      inner = payload ∙ ap (λ (p : Passed). Some p.event) (sym tested.1);
      next = ap (λ (p : Passed). p.signature) tested.1 ∙ ap (λ (t : Instant). encode_lower (link_code signer signature message.payload t)) same.0;
    }

test_split : (signer : Signer) (signature : List ℕ) (place : ℕ) (message : Parts) (passed : Passed) → frame_test signer signature place message ≡ Ok passed
    → (at : Instant) × IsLinkOf signer signature message passed at
unfolding frame_test
test_split signer signature place message passed is =
    let headers = there (carried message.headers) (NotChain place Headers) _ passed is in
    let date = there (signed_moment headers.0.1) (NotChain place Date) _ passed headers.2 in
    let event = there (inner_event message.payload) (NotChain place Inner) _ passed date.2 in
    (headers.0.1, link_split signer signature place message passed headers.0.0 headers.0.1 date.0 event.0 headers.1 date.1 event.1 event.2)

-- ## What a payload holds

inner_none : (payload : List ℕ) → inner_event payload ≡ Some None → payload ≡ []
inner_none [] is = refl
inner_none (byte ∷ payload) is = absurd (by_message (framed_message (byte ∷ payload)) is)
  where
    by_message : (message : Option Parts) → option_map Some message ≡ Some None → ⊥
    by_message None wrong = cc
    by_message (Some message) wrong = cc

framed_split : (bytes : List ℕ) (answer : Result (Parts × ℕ) ErrorKind) (event : Parts) → if_framed bytes answer ≡ Some event
    → (len : ℕ) × (answer ≡ Ok (event, len)) × (unframed event ≡ None) × (frame event ≡ bytes)
framed_split bytes (Err kind) event is = cc
framed_split bytes (Ok message) event is =
    let found = by_tests (unframed message.0) (bytes_eq (frame message.0) bytes) refl refl is in
    (message.1, rw (← found.0) refl, rw (← found.0) found.1, rw (← found.0) found.2)
  where
    by_tests : (reason : Option ErrorKind) (same : Bool) → unframed message.0 ≡ reason → bytes_eq (frame message.0) bytes ≡ same
        → (if is_none reason && same then Some message.0 else None) ≡ Some event
        → (message.0 ≡ event) × (unframed message.0 ≡ None) × (frame message.0 ≡ bytes)
    by_tests None true framed same is =
        let found : message.0 ≡ event = cc in
        (found, framed, (bytes_eq-Decides (frame message.0) bytes).0 same)
    by_tests None false framed same is = cc
    by_tests (Some kind) same_is framed same is = cc

-- an event that a payload holds: the payload is its frame, and its moments are whole milliseconds
record IsEvent (payload : List ℕ) (event : Parts) : Type 0 where
  framed : unframed event ≡ None
  spelled : payload ≡ frame event
  whole : floored_message event ≡ event

inner_some : (payload : List ℕ) (event : Parts) → inner_event payload ≡ Some (Some event) → All IsByte payload → IsEvent payload event
unfolding framed_message
inner_some [] event is small = cc
inner_some (byte ∷ payload) event is small =
    let held : if_framed (byte ∷ payload) (read (byte ∷ payload)) ≡ Some event = by_message (if_framed (byte ∷ payload) (read (byte ∷ payload))) is in
    let parts = framed_split (byte ∷ payload) (read (byte ∷ payload)) event held in
    let framed = read_split (byte ∷ payload) (event, parts.0) parts.1 small in
    record { framed = parts.2; spelled = sym parts.3; whole = framed.whole }
  where
    by_message : (message : Option Parts) → option_map Some message ≡ Some (Some event) → message ≡ Some event
    by_message None wrong = cc
    by_message (Some message) same = cc

-- ## Links

-- a link that isn't too long has a frame
link_whole : (signer : Signer) (signature bytes : List ℕ) (t : Instant) → IsInYears t → frame_len (link_message signer signature bytes t) ≤ 16777216
    → unframed (link_message signer signature bytes t) ≡ None
link_whole signer signature bytes t years short = link_framed signer signature bytes t years (omega (arith, short, length-link signer signature bytes t))

-- ## The moments that the frames carry

no_moments : carried_moments [] ≡ []
unfolding reading reading_within
no_moments = rw nothing_first refl

moments_cons : (bytes : List ℕ) (message : Parts) (rest code : List ℕ) (at : Instant) → first_of bytes ≡ begins message rest → carried message.headers ≡ Some (code, at)
    → carried_moments bytes ≡ at ∷ carried_moments rest
moments_cons bytes message rest code at first carries = rw (goes_on bytes message rest first, carries) refl

-- ## The walk

-- what a walk that ends well went over, after these events
record Accepted (signer : Signer) (signature bytes : List ℕ) (passed all : List Parts) : Type 0 where
  events : List Parts
  joined : all ≡ passed ++ events
  chain_is : IsChainOf signer signature bytes events

closing_chain : (signer : Signer) (signature bytes : List ℕ) (message : Parts) (at : Instant) (tested : Passed) → first_of bytes ≡ begins message [] → All IsByte bytes
    → IsLinkOf signer signature message tested at → tested.event ≡ None → IsChainOf signer signature bytes []
closing_chain signer signature bytes message at tested first small link none =
    let is = first_split bytes message [] first small in
    let empty : message.payload ≡ [] = inner_none message.payload (link.inner ∙ ap Some none) in
    let message_is : message ≡ link_message signer signature [] at = link.link ∙ ap (λ (payload : List ℕ). link_message signer signature payload at) empty in
    let moments : carried_moments bytes ≡ at ∷ [] = moments_cons bytes message [] link.carries.0 at first link.carries.1 ∙ ap (λ (others : List Instant). at ∷ others) no_moments in
    let short : frame_len (link_message signer signature [] at) ≤ 16777216 = subst (λ (m : Parts). frame_len m ≤ 16777216) message_is is.short in
    record {
      spelled = rw moments (is.spelled ∙ ap (λ (m : Parts). frame m ++ []) message_is);
      chained = rw moments (link.years, link_whole signer signature [] at link.years short);
      whole = refl;
    }

event_chain : (signer : Signer) (signature bytes rest : List ℕ) (message event : Parts) (at : Instant) (tested : Passed) (events : List Parts)
    → first_of bytes ≡ begins message rest → All IsByte bytes → IsLinkOf signer signature message tested at → tested.event ≡ Some event
    → IsChainOf signer tested.signature rest events → IsChainOf signer signature bytes (event ∷ events)
event_chain signer signature bytes rest message event at tested events first small link some others =
    let is = first_split bytes message rest first small in
    let held = inner_some message.payload event (link.inner ∙ ap Some some) is.payload in
    let message_is : message ≡ link_message signer signature (frame event) at = link.link ∙ ap (λ (payload : List ℕ). link_message signer signature payload at) held.spelled in
    let next : tested.signature ≡ link_signature signer signature (frame event) at = link.next ∙ ap (λ (payload : List ℕ). link_signature signer signature payload at) held.spelled in
    let moments = moments_cons bytes message rest link.carries.0 at first link.carries.1 in
    let short : frame_len (link_message signer signature (frame event) at) ≤ 16777216 = subst (λ (m : Parts). frame_len m ≤ 16777216) message_is is.short in
    record {
      spelled =
          rw moments (is.spelled ∙ ap (λ (m : Parts). frame m ++ rest) message_is
          ∙ ap (λ (more : List ℕ). frame (link_message signer signature (frame event) at) ++ more) (others.spelled
          ∙ ap (λ (from : List ℕ). concat (chain signer events (carried_moments rest) from)) next));
      chained = rw moments (held.framed, link.years, link_whole signer signature (frame event) at link.years short, rw next at others.chained);
      whole = rw (held.whole, others.whole) refl;
    }

-- what goes on after a frame
abbrev GoesOn : Signer → List ℕ → List Parts → Type 0
GoesOn signer bytes all =
    (next : List ℕ) (count : ℕ) (rest : List ℕ) (passed : List Parts) → length rest < length bytes → All IsByte rest
    → walk_outcome passed (walk_frames signer next count rest) ≡ Ok all → Accepted signer next rest passed all

after_frame : (signer : Signer) (signature bytes rest : List ℕ) (count : ℕ) (passed all : List Parts) (message : Parts) (tested : Passed)
    → first_of bytes ≡ begins message rest → frame_test signer signature (count + 1) message ≡ Ok tested → All IsByte bytes
    → walk_outcome passed (walk_frames signer signature count bytes) ≡ Ok all → GoesOn signer bytes all → Accepted signer signature bytes passed all
after_frame signer signature bytes rest count passed all message tested first tests small is again =
    by_event (test_split signer signature (count + 1) message tested tests) tested.event refl
  where
    by_rest : (link : (at : Instant) × IsLinkOf signer signature message tested at) (rest_is : List ℕ) → rest ≡ rest_is → tested.event ≡ None → walk_outcome passed (after_closing (count + 1) rest_is) ≡ Ok all → Accepted signer signature bytes passed all
    by_rest link [] none closing ends = record {
      events = [];
      joined = sym (passed_same _ _ ends);
      chain_is = closing_chain signer signature bytes message link.0 tested (first ∙ ap (begins message) none) small link.1 closing;
    }
    by_rest link (byte ∷ more) some closing ends = cc

    by_event : (link : (at : Instant) × IsLinkOf signer signature message tested at) → (event : Option Parts) → tested.event ≡ event → Accepted signer signature bytes passed all
    by_event link None none =
        let passes : frame_test signer signature (count + 1) message ≡ Ok (record { event = None; signature = tested.signature }) =
        tests ∙ ap (λ (event : Option Parts). Ok (record { event = event; signature = tested.signature })) none in
        by_rest link rest refl none (sym (closing_passes passed signer signature tested.signature count bytes rest message first passes) ∙ is)
    by_event link (Some event) some =
        let passes : frame_test signer signature (count + 1) message ≡ Ok (record { event = Some event; signature = tested.signature }) =
        tests ∙ ap (λ (found : Option Parts). Ok (record { event = found; signature = tested.signature })) some in
        let goes = sym (event_passes passed signer signature tested.signature count bytes rest message event first passes) ∙ is in
        let others = again tested.signature (count + 1) rest (passed ++ event ∷ []) (shorter bytes message rest first) (first_split bytes message rest first small).behind goes in
        record {
          events = event ∷ others.events;
          joined = others.joined ∙ append_assoc passed (event ∷ []) others.events;
          chain_is = event_chain signer signature bytes rest message event link.0 tested others.events first small link.1 some others.chain_is;
        }

step : (signer : Signer) (signature bytes : List ℕ) (count : ℕ) (passed all : List Parts) → All IsByte bytes
    → walk_outcome passed (walk_frames signer signature count bytes) ≡ Ok all → GoesOn signer bytes all → Accepted signer signature bytes passed all
step signer signature bytes count passed all small is again =
    by_first (first_of bytes) bytes refl refl (sym (ap (walk_outcome passed) (walk_goes signer signature count bytes)) ∙ is)
  where
    by_test : (message : Parts) (rest : List ℕ) (answer : Result Passed ChainFault) → first_of bytes ≡ begins message rest → frame_test signer signature (count + 1) message ≡ answer
        → walk_outcome passed (walk_tested (walk_frames signer) count rest answer) ≡ Ok all → Accepted signer signature bytes passed all
    by_test message rest (Err told) first tests ends = cc
    by_test message rest (Ok tested) first tests ends = after_frame signer signature bytes rest count passed all message tested first tests small is again

    by_first : (first : First) (same : List ℕ) → first_of bytes ≡ first → bytes ≡ same → walk_outcome passed (walk_on (walk_frames signer) signer signature count same first) ≡ Ok all
        → Accepted signer signature bytes passed all
    by_first (begins message rest) same first here ends = by_test message rest (frame_test signer signature (count + 1) message) first refl ends
    by_first (fault kind) same first here ends = cc
    by_first nothing [] first here ends = cc
    by_first nothing (byte ∷ more) first here ends = cc
    by_first (leftover some) [] first here ends = cc
    by_first (leftover some) (byte ∷ more) first here ends = cc

accepted_within : (most : ℕ) (signer : Signer) (signature bytes : List ℕ) (count : ℕ) (passed all : List Parts) → length bytes ≤ most → All IsByte bytes
    → walk_outcome passed (walk_frames signer signature count bytes) ≡ Ok all → Accepted signer signature bytes passed all
accepted_within zero signer signature bytes count passed all few small is =
    step signer signature bytes count passed all small is (λ next here rest before less. absurd (omega arith))
accepted_within (suc most) signer signature bytes count passed all few small is =
    step signer signature bytes count passed all small is
    (λ next here rest before less some ends. accepted_within most signer next rest here before all (omega arith) some ends)

-- what is accepted is the chain of the events
pub accepted_chain : (signer : Signer) (seed bytes : List ℕ) (events : List Parts) → All IsByte bytes → chain_events signer seed bytes ≡ Ok events
    → IsChainOf signer seed bytes events
accepted_chain signer seed bytes events small is =
    let found = accepted_within (length bytes) signer seed bytes 0 [] events (omega arith) small (starts signer seed bytes ∙ is) in
    rw found.joined found.chain_is

-- and the chain of proper events is accepted
pub chain_accepted : (signer : Signer) (seed bytes : List ℕ) (events : List Parts) → All IsProper events → IsChainOf signer seed bytes events
    → chain_events signer seed bytes ≡ Ok events
chain_accepted signer seed bytes events proper is =
    ap (chain_events signer seed) is.spelled ∙ written_accepted signer events (carried_moments bytes) seed proper is.chained ∙ ap Ok is.whole

pub exactly_chain : (signer : Signer) (seed bytes : List ℕ) (events : List Parts) → All IsByte bytes → All IsProper events
    → (chain_events signer seed bytes ≡ Ok events) ↔ IsChainOf signer seed bytes events
exactly_chain signer seed bytes events small proper = (accepted_chain signer seed bytes events small, chain_accepted signer seed bytes events proper)

-- the answer of the walk is exact
pub tells_chain : (signer : Signer) (seed bytes : List ℕ) (result : Result (Vec Parts) ChainFault) → All IsByte bytes
    → AnswersChain (chain_events signer seed bytes) result → AnswersEvents signer seed bytes result
tells_chain signer seed bytes (Ok events) small answers = accepted_chain signer seed bytes events.items small answers
tells_chain signer seed bytes (Err told) small (inr none) = inr none
tells_chain signer seed bytes (Err told) small (inl answers) =
    inl (λ events proper is. let both : Ok events ≡ Err told = sym (chain_accepted signer seed bytes events proper is) ∙ answers in cc)
