-- Where the value of a key is put in a list of pairs.
use Rattle.std.proofs.Common.{◌≡◌, ℕ, ◌+◌, ◌<◌, ◌≤◌, List, [], ◌∷◌, ◌++◌, length, map, take, drop, get_or, set, add-one, String, Global, string_bytes, Ordering, Less, Equal, Greater, is_eq, refl, sym, ap, ◌∙◌, arith}
use Rattle.std.proofs.Math.Seq.{drop-cons}
use Rattle.std.specs.Prelude.{Ok, Err}
use Rattle.std.specs.List.{insert}
use Rattle.std.specs.Ordering.{match_ordering}
use Rattle.std.proofs.lemmas.List.{append_assoc, drop_all, drop-map, length-map, map-append, map-set, map_more, set_split, take-map}
use Rattle.env_config.specs.Texts.{FindsPlace, pairs_of, put, text_cmp}
use Rattle.env_config.proofs.LowerLemmas.{tied_same}

-- the key belongs behind the pairs before the index
abbrev pub IsPassed : List (List ℕ × List ℕ) → List ℕ → ℕ → Type 0
IsPassed pairs key at = (at ≤ length pairs) × ((value : List ℕ) → put pairs key value ≡ take at pairs ++ put (drop at pairs) key value)

abbrev seen : String Global × String Global → List ℕ × List ℕ
seen e = (string_bytes e.0, string_bytes e.1)

module _ (items : List (String Global × String Global)) (key : List ℕ) (at : ℕ) where
  module _ (e : String Global × String Global) (passed : IsPassed (pairs_of items) key at) (within : at < length items) (is : e ≡ get_or items at e) where
    front : drop at (pairs_of items) ≡ seen e ∷ drop (at + 1) (pairs_of items)
    front =
        let cut : drop at items ≡ e ∷ drop (at + 1) items = drop-cons items at e within ∙ rw (← is, add-one) refl in
        drop-map seen at items ∙ ap (map seen) cut ∙ ap (λ (xs : List (List ℕ × List ℕ)). seen e ∷ xs) (sym (drop-map seen (at + 1) items))

    put_by : (value : List ℕ) (o : Ordering) → text_cmp key (string_bytes e.0) ≡ o
        → put (pairs_of items) key value
        ≡ take at (pairs_of items) ++ match_ordering o ((key, value) ∷ drop at (pairs_of items)) ((string_bytes e.0, value) ∷ drop (at + 1) (pairs_of items)) (seen e ∷ put (drop (at + 1) (pairs_of items)) key value)
    put_by value o compared =
        let before = take at (pairs_of items) in
        let after = drop (at + 1) (pairs_of items) in
        passed.1 value
        ∙ ap (λ (xs : List (List ℕ × List ℕ)). before ++ put xs key value) front
        ∙ ap (λ (o : Ordering). before ++ match_ordering o ((key, value) ∷ seen e ∷ after) ((string_bytes e.0, value) ∷ after) (seen e ∷ put after key value)) compared
        ∙ ap (λ (xs : List (List ℕ × List ℕ)). before ++ match_ordering o ((key, value) ∷ xs) ((string_bytes e.0, value) ∷ after) (seen e ∷ put after key value)) (sym front)

    within_pairs : at < length (pairs_of items)
    within_pairs = omega (arith, length-map items seen)

    -- it belongs before a greater key
    pub before_greater : text_cmp key (string_bytes e.0) ≡ Less → FindsPlace (pairs_of items) key (Err at)
    before_greater compared = (passed.0, λ value. put_by value Less compared)

    -- an equal key is the same
    pub at_equal : text_cmp key (string_bytes e.0) ≡ Equal → FindsPlace (pairs_of items) key (Ok at)
    at_equal compared = (
      within_pairs,
      λ value. put_by value Equal compared
          ∙ ap (λ (k : List ℕ). take at (pairs_of items) ++ (k, value) ∷ drop (at + 1) (pairs_of items)) (sym (tied_same key (string_bytes e.0) (ap is_eq compared))),
    )

    -- it belongs behind a smaller key
    pub behind_smaller : text_cmp key (string_bytes e.0) ≡ Greater → IsPassed (pairs_of items) key (at + 1)
    behind_smaller compared =
        let more : take (at + 1) (pairs_of items) ≡ take at (pairs_of items) ++ seen e ∷ [] =
        take-map seen (at + 1) items ∙ map_more seen items at e within ∙ rw (← is) (ap (λ (xs : List (List ℕ × List ℕ)). xs ++ seen e ∷ []) (sym (take-map seen at items))) in (
          omega (arith, within_pairs),
          λ value. put_by value Greater compared
              ∙ sym (append_assoc (take at (pairs_of items)) (seen e ∷ []) (put (drop (at + 1) (pairs_of items)) key value))
              ∙ ap (λ (xs : List (List ℕ × List ℕ)). xs ++ put (drop (at + 1) (pairs_of items)) key value) (sym more),
        )

  -- it belongs at the end behind all keys
  pub at_end : IsPassed (pairs_of items) key at → length items ≤ at → FindsPlace (pairs_of items) key (Err at)
  at_end passed over =
      let none : drop at (pairs_of items) ≡ [] = drop_all at (pairs_of items) (omega (arith, length-map items seen)) in (
        passed.0,
        λ value. passed.1 value
            ∙ ap (λ (xs : List (List ℕ × List ℕ)). take at (pairs_of items) ++ put xs key value) none
            ∙ ap (λ (xs : List (List ℕ × List ℕ)). take at (pairs_of items) ++ (key, value) ∷ xs) (sym none),
      )

module _ (items now : List (String Global × String Global)) (key value : String Global) (at : ℕ) where
  pub few_replaced : FindsPlace (pairs_of items) (string_bytes key) (Ok at) → now ≡ set items at (key, value) → pairs_of now ≡ put (pairs_of items) (string_bytes key) (string_bytes value)
  few_replaced found is =
      ap pairs_of is ∙ map-set seen items at (key, value) ∙ set_split (pairs_of items) at (seen (key, value)) found.0
      ∙ rw (← add-one) (sym (found.1 (string_bytes value)))

  pub few_inserted : FindsPlace (pairs_of items) (string_bytes key) (Err at) → now ≡ insert items at (key, value) → pairs_of now ≡ put (pairs_of items) (string_bytes key) (string_bytes value)
  few_inserted found is =
      let join : List (List ℕ × List ℕ) → List (List ℕ × List ℕ) → List (List ℕ × List ℕ) = λ xs ys. xs ++ (string_bytes key, string_bytes value) ∷ ys in
      ap pairs_of is ∙ map-append seen (take at items) ((key, value) ∷ drop at items)
      ∙ ap (λ (xs : List (List ℕ × List ℕ)). join xs (map seen (drop at items))) (sym (take-map seen at items))
      ∙ ap (join (take at (pairs_of items))) (sym (drop-map seen at items))
      ∙ sym (found.1 (string_bytes value))
