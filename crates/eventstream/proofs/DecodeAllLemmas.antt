-- Messages that are taken one after another.
use Rattle.std.proofs.Common.{◌≡◌, ℕ, ◌<◌, List, [], ◌∷◌, ◌++◌, length, drop, Option, None, Result, Ok, Err, inl, inr, ap, subst, refl, sym, ◌∙◌, append-nil, append_assoc}
use Rattle.std.proofs.lemmas.List.{drop_at}
use Rattle.std.proofs.Math.Seq.{drop-length}
use Rattle.smithy_core.specs.Message.{Parts}
use Rattle.seg_buf.specs.Segments.{Segments}
use Rattle.eventstream.specs.declared.decode.DecodedFrame.{DecodedFrame}
use Rattle.eventstream.specs.declared.decode.DecodedFrame.TheVariants.{Incomplete, Complete}
use Rattle.eventstream.specs.declared.error.Error.{Error}
use Rattle.eventstream.specs.Reading.{Begin, begins, first_of}
use Rattle.eventstream.specs.Decode.{DecodesAll, DecodesFrame, Takes, appended_messages, undecoded_bytes}
use Rattle.eventstream.proofs.ReadingLemmas.{begin_join, shorter}

-- what was taken came first
takes_begin : (messages : List Parts) (kept : Option (List ℕ)) (old : Segments) (prelude : Option (List ℕ)) (new : Segments)
    → Takes messages kept old prelude new → Begin messages (undecoded_bytes kept old.bytes) (undecoded_bytes prelude new.bytes)
takes_begin [] kept old prelude new is = rw (is.0, is.1) refl
takes_begin (message ∷ messages) kept old prelude new is = rw is.0 is.1

-- with one message more, no prelude is kept
takes_some : (messages : List Parts) (message : Parts) (kept : Option (List ℕ)) (old : Segments) (prelude : Option (List ℕ)) (new : Segments)
    → prelude ≡ None → Begin (messages ++ message ∷ []) (undecoded_bytes kept old.bytes) new.bytes → Takes (messages ++ message ∷ []) kept old prelude new
takes_some [] message kept old prelude new none is = (none, is)
takes_some (first ∷ messages) message kept old prelude new none is = (none, is)

-- the messages that were appended are known from the end
pub added_is : (old more : List Parts) → appended_messages old (old ++ more) ≡ more
added_is old more = drop_at old more (length old) refl

added_more : (old now : List Parts) (message : Parts) → now ≡ old ++ appended_messages old now → appended_messages old (now ++ message ∷ []) ≡ appended_messages old now ++ message ∷ []
added_more old now message is =
    ap (λ (list : List Parts). drop (length old) (list ++ message ∷ [])) is
    ∙ ap (drop (length old)) (append_assoc old (appended_messages old now) (message ∷ [])) ∙ added_is old (appended_messages old now ++ message ∷ [])

pub still_added : (old now : List Parts) (message : Parts) → now ≡ old ++ appended_messages old now → now ++ message ∷ [] ≡ old ++ appended_messages old (now ++ message ∷ [])
still_added old now message is =
    ap (λ (list : List Parts). list ++ message ∷ []) is ∙ append_assoc old (appended_messages old now) (message ∷ []) ∙ ap (λ (list : List Parts). old ++ list) (sym (added_more old now message is))

-- before the first message
pub none_added : (old : List Parts) → old ≡ old ++ appended_messages old old
none_added old = sym (ap (λ (list : List Parts). old ++ list) (drop-length old) ∙ append-nil old)

pub none_taken : (listed : List Parts) (kept : Option (List ℕ)) (old : Segments) → Takes (appended_messages listed listed) kept old kept old
none_taken listed kept old = rw (drop-length listed) (refl, refl)

-- a step that takes a message
step_complete : (prelude : Option (List ℕ)) (between : Segments) (after : Option (List ℕ)) (new : Segments) (message : Parts) (answer : Result DecodedFrame Error)
    → answer ≡ Ok (Complete message) → DecodesFrame prelude between after new answer → (first_of (undecoded_bytes prelude between.bytes) ≡ begins message new.bytes) × (after ≡ None)
step_complete prelude between after new message answer complete step = subst (DecodesFrame prelude between after new) complete step

pub takes_more : (listed now : List Parts) (message : Parts) (kept : Option (List ℕ)) (old : Segments) (prelude : Option (List ℕ)) (between : Segments)
    (after : Option (List ℕ)) (new : Segments) (answer : Result DecodedFrame Error) → now ≡ listed ++ appended_messages listed now
    → Takes (appended_messages listed now) kept old prelude between → answer ≡ Ok (Complete message) → DecodesFrame prelude between after new answer
    → Takes (appended_messages listed (now ++ message ∷ [])) kept old after new
takes_more listed now message kept old prelude between after new answer is taken complete step =
    let one = step_complete prelude between after new message answer complete step in
    rw (added_more listed now message is) (takes_some (appended_messages listed now) message kept old after new one.1
    (begin_join (appended_messages listed now) (message ∷ []) (undecoded_bytes kept old.bytes) (undecoded_bytes prelude between.bytes) new.bytes
    (takes_begin (appended_messages listed now) kept old prelude between taken) (new.bytes, one.0, refl)))

-- a step that takes none
pub ends_unfinished : (messages : List Parts) (kept : Option (List ℕ)) (old : Segments) (prelude : Option (List ℕ)) (between : Segments)
    (after : Option (List ℕ)) (new : Segments) → Takes messages kept old prelude between → DecodesFrame prelude between after new (Ok Incomplete)
    → DecodesAll messages kept old after new (Ok tt)
ends_unfinished messages kept old prelude between after new taken step =
    (undecoded_bytes prelude between.bytes, takes_begin messages kept old prelude between taken, step.0, step.1)

pub ends_fault : (messages : List Parts) (kept : Option (List ℕ)) (old : Segments) (prelude : Option (List ℕ)) (between : Segments)
    (after : Option (List ℕ)) (new : Segments) (e : Error) → Takes messages kept old prelude between → DecodesFrame prelude between after new (Err e)
    → DecodesAll messages kept old after new (Err e)
ends_fault messages kept old prelude between after new e taken (inl told) =
    inl (undecoded_bytes prelude between.bytes, takes_begin messages kept old prelude between taken, told.0, told.1)
ends_fault messages kept old prelude between after new e taken (inr full) = inr (full.0, rw (full.1, full.2) taken)

-- a message takes some bytes
pub takes_bytes : (prelude : Option (List ℕ)) (between : Segments) (after : Option (List ℕ)) (new : Segments) (message : Parts) (answer : Result DecodedFrame Error)
    → answer ≡ Ok (Complete message) → DecodesFrame prelude between after new answer → length (undecoded_bytes after new.bytes) < length (undecoded_bytes prelude between.bytes)
takes_bytes prelude between after new message answer complete step =
    let one = step_complete prelude between after new message answer complete step in
    rw one.1 (shorter (undecoded_bytes prelude between.bytes) message new.bytes one.0)

-- what a loop that takes messages needs
pub ruleset taken = (none_added, none_taken, still_added, takes_more, takes_bytes, ends_unfinished, ends_fault)
