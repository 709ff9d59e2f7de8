-- Trimmed texts, word by word.
use Rattle.std.proofs.Common.{◌≡◌, ℕ, Bool, true, false, not, ◌==◌, cond, List, [], ◌∷◌, ◌++◌, length, filter, refl, sym, ap, ◌∙◌, append_assoc}
use Rattle.std.specs.List.{AllByRecursion, join_with_byte, slice_split}
use Rattle.std.proofs.lemmas.List.Elements.{filter-append, filter_passes, recursion_from_All}
use Rattle.smithy_core.specs.Text.{space}
use Rattle.sigv4.specs.Trim.{before_word, is_word, trim_all, value_words}
use Rattle.sigv4.proofs.JoinLemmas.{AllLack, is_none, join_more, split_joined, split_lacks}

-- words are kept
kept_words : (ws : List (List ℕ)) → AllByRecursion (λ w. is_word w ≡ true) ws → filter is_word ws ≡ ws
kept_words [] all = refl
kept_words (w ∷ ws) all = rw all.0 (ap (λ (rest : List (List ℕ)). w ∷ rest) (kept_words ws all.1))

lack_kept : (c : ℕ) (ws : List (List ℕ)) → AllLack c ws → AllLack c (filter is_word ws)
lack_kept c [] lack = tt
lack_kept c (w ∷ ws) lack = by (is_word w) (lack_kept c ws lack.1)
  where
    by : (is : Bool) → AllLack c (filter is_word ws) → AllLack c (cond is (w ∷ filter is_word ws) (filter is_word ws))
    by true rest = (lack.0, rest)
    by false rest = rest

-- a word comes after the words before it, and an empty piece is none
pub word_more : (parts : List (List ℕ)) (w : List ℕ) → (length w == 0) ≡ false → filter is_word (parts ++ w ∷ []) ≡ filter is_word parts ++ w ∷ []
word_more parts w some = filter-append is_word parts (w ∷ []) ∙ ap (λ (empty : Bool). filter is_word parts ++ cond (not empty) (w ∷ []) []) some

-- and joins them after a space, unless it is the first
pub joined_more : (start out new : List ℕ) (is_first : Bool) (parts : List (List ℕ)) (w : List ℕ) → (length w == 0) ≡ false
    → out ≡ start ++ join_with_byte space (filter is_word parts) → is_first ≡ is_none (filter is_word parts) → new ≡ out ++ (before_word is_first ++ w)
    → new ≡ start ++ join_with_byte space (filter is_word (parts ++ w ∷ []))
joined_more start out new is_first parts w some before first after =
    after
    ∙ ap (λ (front : List ℕ). front ++ (before_word is_first ++ w)) before
    ∙ append_assoc start (join_with_byte space (filter is_word parts)) (before_word is_first ++ w)
    ∙ ap (λ (is : Bool). start ++ (join_with_byte space (filter is_word parts) ++ (before_word is ++ w))) first
    ∙ ap (λ (rest : List ℕ). start ++ rest) (sym (ap (join_with_byte space) (word_more parts w some) ∙ join_more space (filter is_word parts) w))

none_push : (ws : List (List ℕ)) (w : List ℕ) → is_none (ws ++ w ∷ []) ≡ false
none_push [] w = refl
none_push (first ∷ ws) w = refl

pub not_first : (parts : List (List ℕ)) (w : List ℕ) → (length w == 0) ≡ false → is_none (filter is_word (parts ++ w ∷ [])) ≡ false
not_first parts w some = ap is_none (word_more parts w some) ∙ none_push (filter is_word parts) w

again : (ws : List (List ℕ)) → AllLack space ws → AllByRecursion (λ w. is_word w ≡ true) ws → value_words (join_with_byte space ws) ≡ ws
again [] lack all = refl
again (w ∷ ws) lack all = ap (filter is_word) (split_joined space w ws lack) ∙ kept_words (w ∷ ws) all

pub trimmed_twice : (text : List ℕ) → trim_all (trim_all text) ≡ trim_all text
unfolding trim_all
trimmed_twice text =
    let parts = slice_split (λ b. b == space) text in
    ap (join_with_byte space) (again (value_words text) (lack_kept space parts (split_lacks space text)) (recursion_from_All (λ w. is_word w ≡ true) (value_words text) (filter_passes is_word parts)))
