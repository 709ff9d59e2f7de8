-- Where reading stops.
use Rattle.std.proofs.Common.{◌≡◌, ℕ, ◌<◌, List, [], ◌∷◌, ◌++◌, length, take, drop, get_or, refl, ap, sym, subst, ◌∙◌, arith}
use Rattle.std.proofs.lemmas.List.{get_or_append_left, get_or_push, length-append, length-take-le, length_push, take-append-drop, nil_from_length}
use Rattle.aws_chunked.specs.Decoded.{CanGoOn}
use Rattle.aws_chunked.specs.Reading.{Led, RefusesNext, StopsWhere}
use Rattle.aws_chunked.specs.declared.decode.fault.PartFault.{PartFault}
use Rattle.aws_chunked.specs.declared.decode.fault.PartFault.TheVariants.{Bad}

-- behind the first bytes
pub stops_behind : (IsWord Is : List ℕ → Type 0) (bytes front back : List ℕ) (fault : PartFault) → fault ≡ Bad (length back) → bytes ≡ front ++ back
    → CanGoOn IsWord front → RefusesNext Is front back → StopsWhere IsWord Is bytes fault
stops_behind IsWord Is bytes front back fault is parted begins refuses =
    subst (StopsWhere IsWord Is bytes) (sym is) (front, back, parted, refl, begins, refuses)

-- the byte behind the first bytes
pub byte_behind : (front : List ℕ) (byte : ℕ) (rest : List ℕ) (i : ℕ) → length front ≡ i → get_or ((front ++ byte ∷ []) ++ rest) i 0 ≡ byte
byte_behind front byte rest i long =
    get_or_append_left (front ++ byte ∷ []) rest 0 i (omega (arith, long, length_push front byte)) ∙ get_or_push front byte 0 i long

-- ## Fixed bytes

pub begins_wanted : (wanted : List ℕ) (i : ℕ) → CanGoOn (λ word. word ≡ wanted) (take i wanted)
begins_wanted wanted i = (drop i wanted, take-append-drop i wanted)

pub expect_ends : (wanted bytes rest : List ℕ) (i : ℕ) (fault : PartFault) → i < length wanted → bytes ≡ take i wanted ++ rest → length rest ≡ 0
    → fault ≡ Bad (length rest) → StopsWhere (λ word. word ≡ wanted) (Led (λ word. word ≡ wanted)) bytes fault
expect_ends wanted bytes rest i fault low read none told =
    stops_behind (λ word. word ≡ wanted) (Led (λ word. word ≡ wanted)) bytes (take i wanted) rest fault told read (begins_wanted wanted i)
    (subst (RefusesNext (Led (λ word. word ≡ wanted)) (take i wanted)) (sym (nil_from_length rest none)) (λ led.
    omega (arith, low, length-take-le i wanted (omega (arith, low)), ap length led.3, length-append led.0 led.1, ap length led.2)))

pub expect_differs : (wanted bytes rest others : List ℕ) (i byte : ℕ) (fault : PartFault) → i < length wanted → bytes ≡ take i wanted ++ rest → rest ≡ byte ∷ others
    → (byte ≡ get_or wanted i 0 → ⊥) → fault ≡ Bad (length rest) → StopsWhere (λ word. word ≡ wanted) (Led (λ word. word ≡ wanted)) bytes fault
expect_differs wanted bytes rest others i byte fault low read first apart told =
    stops_behind (λ word. word ≡ wanted) (Led (λ word. word ≡ wanted)) bytes (take i wanted) rest fault told read (begins_wanted wanted i)
    (subst (RefusesNext (Led (λ word. word ≡ wanted)) (take i wanted)) (sym first) (λ begins.
    let led = begins.1 in
    apart (sym (byte_behind (take i wanted) byte begins.0 i (length-take-le i wanted (omega (arith, low))))
    ∙ ap (λ (xs : List ℕ). get_or xs i 0) (led.3 ∙ ap (λ (w : List ℕ). w ++ led.1) led.2)
    ∙ get_or_append_left wanted led.1 0 i low)))
