-- Lists without repetitions, one element more at a time.
use Rattle.std.proofs.Common.{◌≡◌, ℕ, ◌<◌, ◌≤◌, Bool, true, false, not, ◌||◌, List, [], ◌∷◌, ◌++◌, filter, if◌then◌else◌, length, take, nat_lt, refl, arith, length-append, ◌∙◌, sym, ap}
use Rattle.std.specs.List.{list_any}
use Rattle.std.proofs.lemmas.Bool.{ltb-true, ltb-false}
use Rattle.std.proofs.lemmas.List.{append-nil, take_all, take-append-le, length-take}
use Rattle.std.proofs.lemmas.List.Elements.{filter-append}
use Rattle.aws_intercept.specs.Distinct.{distinct, with_new}

or_drop : (p z r t : Bool) → p ≡ z → (p || r) ≡ (p || t) → (p || r) ≡ (p || (z || t))
or_drop true z r t same rest = refl
or_drop false z r t same rest = rw (← same) rest

or_keep : (p z r t : Bool) → (p || r) ≡ (p || t) → (p || (z || r)) ≡ (p || (z || t))
or_keep true z r t rest = refl
or_keep false z r t rest = ap (λ b. z || b) rest

module _ {X : Type 0} (same : X → X → Bool) (exact : (x y : X) → same x y ≡ true → x ≡ y) where
  -- an element that passes beside those that it stands for
  any_step : (P : X → Bool) (a z : X) (kept rest : List X) (b : Bool) → same a z ≡ b
      → (P a || list_any P kept) ≡ (P a || list_any P rest)
      → (P a || list_any P (if not b then z ∷ kept else kept)) ≡ (P a || (P z || list_any P rest))
  any_step P a z kept rest true is_same others = or_drop (P a) (P z) (list_any P kept) (list_any P rest) (ap P (exact a z is_same)) others
  any_step P a z kept rest false is_same others = or_keep (P a) (P z) (list_any P kept) (list_any P rest) others

  any_filter : (P : X → Bool) (a : X) (zs : List X)
      → (P a || list_any P (filter (λ y. not (same a y)) zs)) ≡ (P a || list_any P zs)
  any_filter P a [] = refl
  any_filter P a (z ∷ zs) = any_step P a z (filter (λ y. not (same a y)) zs) zs (same a z) refl (any_filter P a zs)

  -- what some element passes, one of the different elements passes
  any_distinct : (P : X → Bool) (xs : List X) → list_any P (distinct same xs) ≡ list_any P xs
  any_distinct P [] = refl
  any_distinct P (a ∷ xs) = any_filter P a (distinct same xs) ∙ ap (λ b. P a || b) (any_distinct P xs)

  filter_one : (p : X → Bool) (x : X) (s any : Bool) → p x ≡ not s
      → filter p (if any then [] else x ∷ []) ≡ (if s || any then [] else x ∷ [])
  filter_one p x true true is_not = refl
  filter_one p x false true is_not = refl
  filter_one p x true false is_not = rw is_not refl
  filter_one p x false false is_not = rw is_not refl

  distinct_last : (xs : List X) (x : X)
      → distinct same (xs ++ x ∷ []) ≡ distinct same xs ++ (if list_any (λ y. same y x) xs then [] else x ∷ [])
  distinct_last [] x = refl
  distinct_last (a ∷ xs) x =
      ap (λ (rest : List X). a ∷ filter (λ y. not (same a y)) rest) (distinct_last xs x)
      ∙ ap (λ (rest : List X). a ∷ rest) (filter-append (λ y. not (same a y)) (distinct same xs) _
      ∙ ap (λ (rest : List X). filter (λ y. not (same a y)) (distinct same xs) ++ rest)
      (filter_one (λ y. not (same a y)) x (same a x) (list_any (λ y. same y x) xs) refl))

  put_last : (xs : List X) (x : X) (any : Bool) → xs ++ (if any then [] else x ∷ []) ≡ (if any then xs else xs ++ x ∷ [])
  put_last xs x true = append-nil xs
  put_last xs x false = refl

  -- one element more
  pub distinct_more : (xs : List X) (x : X) → distinct same (xs ++ x ∷ []) ≡ with_new same (distinct same xs) x
  distinct_more xs x =
      distinct_last xs x ∙ put_last (distinct same xs) x (list_any (λ y. same y x) xs)
      ∙ ap (λ any. if any then distinct same xs else distinct same xs ++ x ∷ []) (sym (any_distinct (λ y. same y x) xs))

  limited_case : (n : ℕ) (xs : List X) (x : X) (any : Bool) → n ≤ length xs
      → take n (if any then xs else xs ++ x ∷ []) ≡ take n xs
  limited_case n xs x true long = refl
  limited_case n xs x false long = take-append-le n xs (x ∷ []) long

  short_case : (n : ℕ) (xs : List X) (x : X) (any : Bool) → length xs < n
      → take n (if any then xs else xs ++ x ∷ []) ≡ (if any then xs else xs ++ x ∷ [])
  short_case n xs x true short = take_all n xs (omega arith)
  short_case n xs x false short = take_all n (xs ++ x ∷ []) (omega (arith, length-append xs (x ∷ [])))

  by_room : (n : ℕ) (xs : List X) (x : X) (room : Bool) → nat_lt (length (take n xs)) n ≡ room
      → (if room then with_new same (take n xs) x else take n xs) ≡ take n (with_new same xs x)
  by_room n xs x true is_room =
      let short : length xs < n = omega (arith, length-take n xs, ltb-true (length (take n xs)) n is_room) in
      rw (take_all n xs (omega arith)) (sym (short_case n xs x (list_any (λ y. same y x) xs) short))
  by_room n xs x false is_room =
      let long : n ≤ length xs = omega (arith, length-take n xs, ltb-false (length (take n xs)) n is_room) in
      sym (limited_case n xs x (list_any (λ y. same y x) xs) long)

  -- one element more, as long as there is room
  pub limited_more : (n : ℕ) (xs : List X) (x : X)
      → (if nat_lt (length (take n xs)) n then with_new same (take n xs) x else take n xs) ≡ take n (with_new same xs x)
  limited_more n xs x = by_room n xs x (nat_lt (length (take n xs)) n) refl
