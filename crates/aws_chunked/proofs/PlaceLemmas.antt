-- The place where reading stops, from one part to the whole.
use Rattle.std.proofs.Common.{◌≡◌, ℕ, ◌+◌, ◌-◌, ◌<◌, ◌≤◌, inl, inr, List, [], ◌∷◌, ◌++◌, length, take, drop, refl, ap, sym, subst, ◌∙◌, arith, append_assoc}
use Rattle.std.proofs.lemmas.List.{append-nil, length-append, take-append-drop, take-append-le, take_at}
use Rattle.aws_chunked.specs.Decoded.{CanGoOn, IsBadAt, StopsAtByte}
use Rattle.aws_chunked.specs.Reading.{RefusesNext, Stops, StopsWhere}
use Rattle.aws_chunked.specs.Rests.{first_byte}
use Rattle.aws_chunked.specs.declared.decode.fault.PartFault.{PartFault}
use Rattle.aws_chunked.specs.declared.decode.fault.PartFault.TheVariants.{Bad, NoMemory}

-- what is refused in the more is refused behind a word in the less, where the byte behind the word is that at hand
refuses_behind_word : (Less More : List ℕ → Type 0) (word front back : List ℕ)
    → ((text : List ℕ) → first_byte text ≡ first_byte (front ++ back) → Less (word ++ text) → More text) → RefusesNext More front back → RefusesNext Less (word ++ front) back
refuses_behind_word Less More word front [] within refuses = λ is. refuses (within front (ap first_byte (sym (append-nil front))) is)
refuses_behind_word Less More word front (byte ∷ back) within refuses = λ begins.
    let text = (front ++ byte ∷ []) ++ begins.0 in
    refuses (
      begins.0,
      within text (same front begins.0)
          (subst Less (ap (λ (t : List ℕ). t ++ begins.0) (append_assoc word front (byte ∷ [])) ∙ append_assoc word (front ++ byte ∷ []) begins.0) begins.1),
    )
  where
    same : (xs more : List ℕ) → first_byte ((xs ++ byte ∷ []) ++ more) ≡ first_byte (xs ++ byte ∷ back)
    same [] more = refl
    same (x ∷ xs) more = refl

-- the first of two parts stops the whole: each word of the part goes on to one of the whole, and what leads to the whole, where its first
-- byte is that at hand, leads to the part
pub stops_first : (IsPart LedPart IsWhole LedWhole : List ℕ → Type 0) (bytes : List ℕ) (fault : PartFault) → ((word : List ℕ) → IsPart word → CanGoOn IsWhole word)
    → ((all : List ℕ) → first_byte all ≡ first_byte bytes → LedWhole all → LedPart all) → StopsWhere IsPart LedPart bytes fault → StopsWhere IsWhole LedWhole bytes fault
stops_first IsPart LedPart IsWhole LedWhole bytes NoMemory goes_on within told = tt
stops_first IsPart LedPart IsWhole LedWhole bytes (Bad left) goes_on within told =
    let front = told.0 in
    let back = told.1 in
    let begins = told.4 in
    let whole = goes_on (front ++ begins.0) begins.1 in (
      front,
      back,
      told.2,
      told.3,
      (begins.0 ++ whole.0, subst IsWhole (append_assoc front begins.0 whole.0) whole.1),
      refuses_behind_word LedWhole LedPart [] front back (λ all same is. within all (same ∙ ap first_byte (sym told.2)) is) told.5,
    )

-- what stands behind a word stops the whole: it goes on to the whole behind the word, and what leads to the whole, where the byte behind the
-- word is that at hand, leads to it behind the word
pub stops_behind_word : (IsRest LedRest IsWhole LedWhole : List ℕ → Type 0) (word bytes rest : List ℕ) (fault : PartFault) → bytes ≡ word ++ rest
    → ((text : List ℕ) → IsRest text → IsWhole (word ++ text)) → ((text : List ℕ) → first_byte text ≡ first_byte rest → LedWhole (word ++ text) → LedRest text)
    → StopsWhere IsRest LedRest rest fault → StopsWhere IsWhole LedWhole bytes fault
stops_behind_word IsRest LedRest IsWhole LedWhole word bytes rest NoMemory parted goes_on within told = tt
stops_behind_word IsRest LedRest IsWhole LedWhole word bytes rest (Bad left) parted goes_on within told =
    let front = told.0 in
    let back = told.1 in
    let begins = told.4 in (
      word ++ front,
      back,
      parted ∙ ap (λ (t : List ℕ). word ++ t) told.2 ∙ sym (append_assoc word front back),
      told.3,
      (begins.0, subst IsWhole (sym (append_assoc word front begins.0)) (goes_on (front ++ begins.0) begins.1)),
      refuses_behind_word LedWhole LedRest word front back (λ text same is. within text (same ∙ ap first_byte (sym told.2)) is) told.5,
    )

-- ## The place

begins_less : (Is : List ℕ → Type 0) (front back : List ℕ) (n : ℕ) → n ≤ length front → CanGoOn Is front → CanGoOn Is (take n (front ++ back))
begins_less Is front back n low begins = (
  drop n front ++ begins.0,
  subst Is (ap (λ (t : List ℕ). t ++ begins.0) (sym (take-append-drop n front)) ∙ append_assoc (take n front) (drop n front) begins.0
      ∙ ap (λ (t : List ℕ). t ++ (drop n front ++ begins.0)) (sym (take-append-le n front back low))) begins.1,
)

stops_here : (Is : List ℕ → Type 0) (front back : List ℕ) → RefusesNext Is front back → StopsAtByte Is (front ++ back) (length front)
stops_here Is front [] refuses = inr (ap length (sym (append-nil front)), λ is. refuses (subst Is (append-nil front) is))
stops_here Is front (byte ∷ back) refuses =
    inl (omega (arith, length-append front (byte ∷ back)), λ begins. refuses (subst (CanGoOn Is) next begins))
  where
    next : take (length front + 1) (front ++ byte ∷ back) ≡ front ++ byte ∷ []
    next = ap (take (length front + 1)) (sym (append_assoc front (byte ∷ []) back))
        ∙ take_at (front ++ byte ∷ []) back (length front + 1) (length-append front (byte ∷ []) ∙ omega arith)

not_before : (Is : List ℕ → Type 0) (front back : List ℕ) (n : ℕ) → CanGoOn Is front → n < length front → StopsAtByte Is (front ++ back) n → ⊥
not_before Is front back n begins low (inl stops) = stops.1 (begins_less Is front back (n + 1) (omega (arith, low)) begins)
not_before Is front back n begins low (inr ends) = omega (arith, low, ends.0, length-append front back)

-- reading that stops tells the least place
pub place_told : (Is : List ℕ → Type 0) (bytes : List ℕ) (left : ℕ) → Stops Is Is bytes left → IsBadAt Is bytes (length bytes - left)
place_told Is bytes left stops =
    let front = stops.0 in
    let back = stops.1 in
    let here : length bytes - left ≡ length front = omega (arith, ap length stops.2, length-append front back, stops.3) in
    subst (IsBadAt Is bytes) (sym here)
    (subst (λ (t : List ℕ). IsBadAt Is t (length front)) (sym stops.2)
    (stops_here Is front back stops.5, λ n low is. not_before Is front back n stops.4 low is))

pub left_low : (Is : List ℕ → Type 0) (bytes : List ℕ) (left : ℕ) → Stops Is Is bytes left → left ≤ length bytes
left_low Is bytes left stops = omega (arith, ap length stops.2, length-append stops.0 stops.1, stops.3)

pub place_of : (Is : List ℕ → Type 0) (bytes : List ℕ) (fault : PartFault) (left : ℕ) → fault ≡ Bad left → StopsWhere Is Is bytes fault → IsBadAt Is bytes (length bytes - left)
place_of Is bytes fault left is told = place_told Is bytes left (subst (StopsWhere Is Is bytes) is told)
