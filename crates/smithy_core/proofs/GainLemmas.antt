-- A sink that is written piece by piece.
use Rattle.std.proofs.Common.{◌≡◌, ℕ, ◌<◌, List, [], ◌++◌, length, take, drop, Option, Some, None, refl, sym, ◌∙◌, ap, append_assoc, append-nil}
use Rattle.std.proofs.lemmas.List.{take-append-drop}
use Rattle.smithy_core.specs.Outside.{Gains, GainsFront, GainsRest, GainsPrefix, GainsProperPrefix}

-- nothing is gained where nothing changes
pub gains_nothing : (held : Option (List ℕ)) → Gains held held []
gains_nothing None = refl
gains_nothing (Some before) = ap Some (sym (append-nil before))

-- one text is gained after another
pub gains_twice : (a b c : Option (List ℕ)) (front back : List ℕ) → Gains a b front → Gains b c back → Gains a c (front ++ back)
gains_twice None b c front back first second = let later : Gains None c back = rw (let none : b ≡ None = first in none) at second in later
gains_twice (Some before) b c front back first second =
    let later : Gains (Some (before ++ front)) c back = rw (let some : b ≡ Some (before ++ front) = first in some) at second in
    later ∙ ap Some (append_assoc before front back)

-- before any write all of the text is the rest
pub gains_at_start : (held : Option (List ℕ)) (text : List ℕ) → GainsRest held held text text
gains_at_start held text = record { front = []; gained = gains_nothing held; whole = refl }

-- after one write more
pub gains_more : (before mid now : Option (List ℕ)) (n : ℕ) (rest text : List ℕ) → GainsRest before mid rest text → GainsFront n rest mid now → GainsRest before now (drop n rest) text
gains_more before mid now n rest text so_far front = record {
  front = so_far.front ++ take n rest;
  gained = gains_twice before mid now so_far.front (take n rest) so_far.gained front;
  whole = so_far.whole ∙ ap (λ x. so_far.front ++ x) (sym (take-append-drop n rest)) ∙ sym (append_assoc so_far.front (take n rest) (drop n rest));
}

-- no rest is left
pub gains_whole : (before now : Option (List ℕ)) (rest text : List ℕ) → GainsRest before now rest text → rest ≡ [] → Gains before now text
gains_whole before now rest text so_far none =
    let same : text ≡ so_far.front = so_far.whole ∙ ap (λ x. so_far.front ++ x) none ∙ append-nil so_far.front in rw same so_far.gained

-- a rest is left
pub gains_part : (before now : Option (List ℕ)) (rest text : List ℕ) → GainsRest before now rest text → 0 < length rest → GainsProperPrefix before now text
gains_part before now rest text so_far some = (rest, some, so_far)

pub ruleset writes = (gains_at_start, gains_more, gains_whole, gains_part)

-- a proper front is a front
pub prefix_from_proper : (before now : Option (List ℕ)) (text : List ℕ) → GainsProperPrefix before now text → GainsPrefix before now text
prefix_from_proper before now text part = (part.0, part.2)

-- the whole is a front
pub prefix_from_whole : (before now : Option (List ℕ)) (text : List ℕ) → Gains before now text → GainsPrefix before now text
prefix_from_whole before now text whole = ([], record { front = text; gained = whole; whole = sym (append-nil text) })

-- nothing is a front
pub prefix_at_start : (held : Option (List ℕ)) (text : List ℕ) → GainsPrefix held held text
prefix_at_start held text = (text, gains_at_start held text)

-- a write of the rest's front after a write
pub gains_join : (a b c : Option (List ℕ)) (last rest text : List ℕ) → GainsRest a b rest text → GainsRest b c last rest → GainsRest a c last text
gains_join a b c last rest text first second = record {
  front = first.front ++ second.front;
  gained = gains_twice a b c first.front second.front first.gained second.gained;
  whole = first.whole ∙ ap (λ x. first.front ++ x) second.whole ∙ sym (append_assoc first.front second.front last);
}

-- a write of the rest after a write
pub gains_last : (a b c : Option (List ℕ)) (rest text : List ℕ) → GainsRest a b rest text → Gains b c rest → Gains a c text
gains_last a b c rest text first second = rw first.whole (gains_twice a b c first.front rest first.gained second)

-- a write of the front leaves the back
pub gains_front : (b c : Option (List ℕ)) (front back : List ℕ) → Gains b c front → GainsRest b c back (front ++ back)
gains_front b c front back whole = record { front = front; gained = whole; whole = refl }

-- a front of the front is a front of the whole
pub prefix_within : (b c : Option (List ℕ)) (front back : List ℕ) → GainsPrefix b c front → GainsPrefix b c (front ++ back)
prefix_within b c front back part = (part.0 ++ back, within part.0 part.1)
  where
    within : (rest : List ℕ) → GainsRest b c rest front → GainsRest b c (rest ++ back) (front ++ back)
    within rest part = record { front = part.front; gained = part.gained; whole = ap (λ x. x ++ back) part.whole ∙ append_assoc part.front rest back }

-- a front of the rest after a write is a front of the whole
pub prefix_join : (a b c : Option (List ℕ)) (rest text : List ℕ) → GainsRest a b rest text → GainsPrefix b c rest → GainsPrefix a c text
prefix_join a b c rest text first second = (second.0, gains_join a b c second.0 rest text first second.1)
