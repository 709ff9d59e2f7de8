-- The tests of a frame.
use Rattle.std.proofs.Common.{◌≡◌, ℕ, ◌<◌, true, false, List, [], ◌∷◌, length, take, Option, Some, None, Result, Ok, Err, inl, inr, ◌⊎◌, refl, sym, ap, ◌∙◌, append-nil, arith}
use Rattle.std.specs.Prelude.{◌==◌, ◌&&◌, Bool, if◌then◌else◌, bytes_eq, is_none, option_map}
use Rattle.std.proofs.lemmas.Bool.{eq-eqb}
use Rattle.std.proofs.lemmas.List.{take_at}
use Rattle.std.proofs.lemmas.Slice.Eq.{bytes_eq-Decides}
use Rattle.smithy_core.specs.Message.{Parts}
use Rattle.smithy_core.specs.Moment.{Instant, floor_secs}
use Rattle.eventstream.specs.Frame.{frame, unframed}
use Rattle.eventstream.specs.Key.{Signer}
use Rattle.eventstream.specs.Link.{link_code, link_message, link_signature}
use Rattle.eventstream.specs.Read.{read}
use Rattle.eventstream.specs.declared.error.ErrorKind.{ErrorKind}
use Rattle.eventstream.specs.declared.error.ErrorKind.TheVariants as kinds
use Rattle.eventstream.proofs.LinkLemmas.{length-link_code}
use Rattle.chain_watch.specs.declared.chain_fault.ChainFault.{ChainFault}
use Rattle.chain_watch.specs.declared.chain_fault.ChainFault.TheVariants.{NoMemory, NotChain}
use Rattle.chain_watch.specs.declared.chain_fault.ChainPart.{ChainPart}
use Rattle.chain_watch.specs.declared.chain_fault.ChainPart.TheVariants.{Inner}
use Rattle.chain_watch.specs.Frame.{HoldsEvent, part_fault}
use Rattle.chain_watch.specs.Walk.{carried, compared, frame_test, framed_message, if_framed, inner_event, signed_moment}

-- ## Faults

-- the fault that is told, or else another
abbrev pub fault_in : {A : Type 0} → ChainFault → Result A ChainFault → ChainFault
fault_in other (Ok x) = other
fault_in other (Err told) = told

-- ## What a payload holds

inner_by : (payload : List ℕ) → 0 < length payload → inner_event payload ≡ option_map Some (if_framed payload (read payload))
unfolding framed_message
inner_by [] some = absurd (omega arith)
inner_by (byte ∷ payload) some = refl

inner_unread : (payload : List ℕ) (kind : ErrorKind) → 0 < length payload → read payload ≡ Err kind → inner_event payload ≡ None
inner_unread payload kind some unread = inner_by payload some ∙ ap (λ (r : Result (Parts × ℕ) ErrorKind). option_map Some (if_framed payload r)) unread

inner_read : (payload : List ℕ) (event : Parts) (len : ℕ) → 0 < length payload → read payload ≡ Ok (event, len)
    → inner_event payload ≡ option_map Some (if is_none (unframed event) && bytes_eq (frame event) payload then Some event else None)
inner_read payload event len some is = inner_by payload some ∙ ap (λ (r : Result (Parts × ℕ) ErrorKind). option_map Some (if_framed payload r)) is

inner_unframed : (payload : List ℕ) (event : Parts) (len : ℕ) (kind : ErrorKind) → 0 < length payload → read payload ≡ Ok (event, len) → unframed event ≡ Some kind → inner_event payload ≡ None
inner_unframed payload event len kind some is none = inner_read payload event len some is ∙ rw none refl

framed_by : (payload : List ℕ) (event : Parts) (len : ℕ) (same : Bool) → 0 < length payload → read payload ≡ Ok (event, len) → unframed event ≡ None
    → bytes_eq (frame event) payload ≡ same → inner_event payload ≡ option_map Some (if same then Some event else None)
framed_by payload event len same some is framed test = inner_read payload event len some is ∙ rw (framed, test) refl

pub inner_other : (payload : List ℕ) (event : Parts) (len : ℕ) → 0 < length payload → read payload ≡ Ok (event, len) → unframed event ≡ None
    → bytes_eq (frame event) payload ≡ false → inner_event payload ≡ None
inner_other payload event len some is framed test = framed_by payload event len false some is framed test

pub inner_same : (payload : List ℕ) (event : Parts) (len : ℕ) → 0 < length payload → read payload ≡ Ok (event, len) → unframed event ≡ None
    → bytes_eq (frame event) payload ≡ true → inner_event payload ≡ Some (Some event)
inner_same payload event len some is framed test = framed_by payload event len true some is framed test

pub inner_whole : (payload : List ℕ) (event : Parts) (len : ℕ) → 0 < length payload → read payload ≡ Ok (event, len) → unframed event ≡ None
    → frame event ≡ payload → inner_event payload ≡ Some (Some event)
inner_whole payload event len some is framed same = inner_same payload event len some is framed ((bytes_eq-Decides (frame event) payload).1 same)

-- want of memory stays what it is, and each other fault is that of the part
pub part_or_want : (place : ℕ) (part : ChainPart) (kind : ErrorKind) → (part_fault place part kind ≡ NotChain place part) ⊎ (part_fault place part kind ≡ NoMemory)
part_or_want place part kinds.NoMemory = inr refl
part_or_want place part kind = inl refl

inner_fault : (place : ℕ) (payload : List ℕ) (kind : ErrorKind) → inner_event payload ≡ None → HoldsEvent place payload (Err (part_fault place Inner kind))
inner_fault place payload kind none = by_fault (part_or_want place Inner kind)
  where
    by_fault : (part_fault place Inner kind ≡ NotChain place Inner) ⊎ (part_fault place Inner kind ≡ NoMemory) → HoldsEvent place payload (Err (part_fault place Inner kind))
    by_fault (inl is) = inl (none, is)
    by_fault (inr want) = inr want

inner_want : (place : ℕ) (payload : List ℕ) (kind : ErrorKind) → kind ≡ kinds.NoMemory → HoldsEvent place payload (Err (part_fault place Inner kind))
inner_want place payload kind want = inr (ap (part_fault place Inner) want)

pub unread_fault : (place : ℕ) (payload : List ℕ) (kind : ErrorKind) → 0 < length payload → (read payload ≡ Err kind) ⊎ (kind ≡ kinds.NoMemory)
    → HoldsEvent place payload (Err (part_fault place Inner kind))
unread_fault place payload kind some (inl unread) = inner_fault place payload kind (inner_unread payload kind some unread)
unread_fault place payload kind some (inr want) = inner_want place payload kind want

pub unwritten_fault : (place : ℕ) (payload : List ℕ) (event : Parts) (len : ℕ) (kind : ErrorKind) → 0 < length payload → read payload ≡ Ok (event, len)
    → (unframed event ≡ Some kind) ⊎ (kind ≡ kinds.NoMemory) → HoldsEvent place payload (Err (part_fault place Inner kind))
unwritten_fault place payload event len kind some is (inl none) = inner_fault place payload kind (inner_unframed payload event len kind some is none)
unwritten_fault place payload event len kind some is (inr want) = inner_want place payload kind want

pub ruleset again = (unwritten_fault, inner_other, inner_same)

-- ## What a frame carries

pub link_carried : (signer : Signer) (signature bytes : List ℕ) (at : Instant) → carried (link_message signer signature bytes at).headers ≡ Some (link_code signer signature bytes at, floor_secs at)
unfolding link_message
link_carried signer signature bytes at =
    let long : (length (link_code signer signature bytes at) == 32) ≡ true = eq-eqb _ _ (length-link_code signer signature bytes at) in rw long refl

-- 32 bytes are a signature
pub whole_code : (bytes code : List ℕ) → code ≡ take 32 bytes → length bytes ≡ 32 → Some code ≡ (if length bytes == 32 then Some bytes else None)
whole_code bytes code is long =
    let test : (length bytes == 32) ≡ true = eq-eqb _ _ long in
    let whole : take 32 bytes ≡ bytes = ap (take 32) (sym (append-nil bytes)) ∙ take_at bytes [] 32 long in
    rw test (ap Some (is ∙ whole))

pub date_signed : (date : Instant) (fits : Bool) → signed_moment date ≡ (if fits then Some date else None) → fits ≡ true → signed_moment date ≡ Some date
date_signed date true is fit = is
date_signed date false is fit = cc

-- ## The tests of a frame

tested_code : (signer : Signer) (signature : List ℕ) (place : ℕ) (message : Parts) (code : List ℕ) (date : Instant) (event : Option Parts)
    → carried message.headers ≡ Some (code, date) → signed_moment date ≡ Some date → inner_event message.payload ≡ Some event
    → frame_test signer signature place message ≡ compared place code (link_code signer signature message.payload date) event
unfolding frame_test
tested_code signer signature place message code date event headers moment payload = rw (headers, moment, payload) refl

pub test_passes : (signer : Signer) (signature : List ℕ) (place : ℕ) (message : Parts) (code recomputed next : List ℕ) (date : Instant) (event : Option Parts)
    → carried message.headers ≡ Some (code, date) → signed_moment date ≡ Some date → inner_event message.payload ≡ Some event
    → recomputed ≡ link_code signer signature message.payload date → bytes_eq code recomputed ≡ true
    → next ≡ link_signature signer signature message.payload date
    → frame_test signer signature place message ≡ Ok (record { event = event; signature = next })
unfolding link_signature
test_passes signer signature place message code recomputed next date event headers moment payload is same after =
    let test : bytes_eq code (link_code signer signature message.payload date) ≡ true = ap (bytes_eq code) (sym is) ∙ same in
    tested_code signer signature place message code date event headers moment payload ∙ rw (test, after) refl
