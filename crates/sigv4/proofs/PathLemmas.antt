-- Paths, segment by segment, and in their normal form.
use Rattle.std.proofs.Common.{◌≡◌, ℕ, suc, ◌-◌, Bool, true, false, ◌||◌, ◌==◌, cond, Bor, List, [], ◌∷◌, ◌++◌, All, codes, length, fold, get_or, take, refl, sym, ap, ◌∙◌, append_assoc, append-nil, arith}
use Rattle.std.specs.List.{AllByRecursion, flat_map, join_with_byte, slice_split}
use Rattle.std.proofs.Math.Dec.{eqb-suc-zero}
use Rattle.std.proofs.lemmas.Bool.{false≢true}
use Rattle.std.proofs.lemmas.List.{length_push}
use Rattle.std.proofs.Math.Seq.{get_or-append_seam}
use Rattle.std.proofs.lemmas.List.Elements.{All-from_recursion, All-get_or, All-nil, All-push, All-take, recursion_from_All}
use Rattle.std.proofs.lemmas.List.Sums.{fold-append}
use Rattle.http_uri.specs.ByteClasses.{slash}
use Rattle.sigv4.specs.Path.{after_slash, closing_slash, ends_open, is_dropped_segment, is_parent_segment, kept, kept_after, norm, norm_of, segment_texts, segments}
use Rattle.sigv4.proofs.JoinLemmas.{AllLack, Lacks, join_more, split_joined, split_lacks}

-- the last segment of all
pub ends_push : (ps : List (List ℕ)) (p : List ℕ) → ends_open (ps ++ p ∷ []) ≡ (is_dropped_segment p || is_parent_segment p)
ends_push ps p =
    let at : length (ps ++ p ∷ []) - 1 ≡ length ps = omega (arith, length_push ps p) in
    ap (λ (last : List ℕ). is_dropped_segment last || is_parent_segment last) (ap (λ (i : ℕ). get_or (ps ++ p ∷ []) i []) at ∙ get_or-append_seam ps p [] [])

-- each segment after a slash
slashed : (p : List ℕ) (ps : List (List ℕ)) → flat_map after_slash (p ∷ ps) ≡ slash ∷ join_with_byte slash (p ∷ ps)
slashed p [] = ap (λ (rest : List ℕ). slash ∷ rest) (append-nil p)
slashed p (next ∷ ps) = ap (λ (rest : List ℕ). slash ∷ (p ++ rest)) (slashed next ps)

-- no segment, and a segment at least
pub none_joined : (ks : List (Bor (List ℕ))) (opens : Bool) → (length ks == 0) ≡ true → codes "/" ++ (join_with_byte slash (segment_texts ks) ++ closing_slash opens (segment_texts ks)) ≡ codes "/"
none_joined [] true none = refl
none_joined [] false none = refl
none_joined (k ∷ ks) opens none = absurd (false≢true (sym (eqb-suc-zero (length ks)) ∙ none))

pub some_joined : (ks : List (Bor (List ℕ))) (opens : Bool) → (length ks == 0) ≡ false → codes "/" ++ (join_with_byte slash (segment_texts ks) ++ closing_slash opens (segment_texts ks)) ≡ flat_map after_slash (segment_texts ks) ++ cond opens (codes "/") []
some_joined [] opens some = absurd (false≢true (sym some))
some_joined (k ∷ ks) true some = sym (ap (λ (front : List ℕ). front ++ codes "/") (slashed k.now (segment_texts ks)))
some_joined (k ∷ ks) false some = sym (ap (λ (front : List ℕ). front ++ []) (slashed k.now (segment_texts ks)))

-- ---- twice is once

-- a segment that is kept
abbrev IsKept : List ℕ → Type 0
IsKept segment = (is_dropped_segment segment ≡ false) × (is_parent_segment segment ≡ false) × Lacks slash segment

after_kept : (ks : List (List ℕ)) (p : List ℕ) → All IsKept ks → Lacks slash p → All IsKept (kept_after ks p)
after_kept ks p all lack = by (is_parent_segment p) refl (is_dropped_segment p) refl
  where
    by : (parent : Bool) → is_parent_segment p ≡ parent → (here : Bool) → is_dropped_segment p ≡ here → All IsKept (cond parent (take (length ks - 1) ks) (cond here ks (ks ++ p ∷ [])))
    by true e here f = All-take IsKept (length ks - 1) ks all
    by false e true f = all
    by false e false f = All-push IsKept ks p all (f, e, lack)

all_kept : (ks ps : List (List ℕ)) → All IsKept ks → AllLack slash ps → All IsKept (fold kept_after ks ps)
all_kept ks [] all lack = all
all_kept ks (p ∷ ps) all lack = all_kept (kept_after ks p) ps (after_kept ks p all lack.0) lack.1

kept_again : (ks ps : List (List ℕ)) → AllByRecursion IsKept ps → fold kept_after ks ps ≡ ks ++ ps
kept_again ks [] all = sym (append-nil ks)
kept_again ks (p ∷ ps) all =
    let one : kept_after ks p ≡ ks ++ p ∷ [] = rw (all.0.1, all.0.0) refl in
    ap (λ (front : List (List ℕ)). fold kept_after front ps) one ∙ kept_again (ks ++ p ∷ []) ps all.1 ∙ append_assoc ks (p ∷ []) ps

lacking : (ps : List (List ℕ)) → AllByRecursion IsKept ps → AllLack slash ps
lacking [] all = tt
lacking (p ∷ ps) all = (all.0.2, lacking ps all.1)

lacking_push : (ps : List (List ℕ)) → AllLack slash ps → AllLack slash (ps ++ [] ∷ [])
lacking_push [] all = (All-nil (λ b. (b == slash) ≡ false), tt)
lacking_push (p ∷ ps) all = (all.0, lacking_push ps all.1)

not_open : (p : List ℕ) → IsKept p → (is_dropped_segment p || is_parent_segment p) ≡ false
not_open p is = rw (is.0, is.1) refl

last_kept : (first p : List ℕ) (ps : List (List ℕ)) → AllByRecursion IsKept (p ∷ ps) → ends_open (first ∷ p ∷ ps) ≡ false
last_kept first p ps all =
    let at : length (first ∷ p ∷ ps) - 1 ≡ suc (length ps) = omega arith in
    rw at (not_open (get_or (p ∷ ps) (length ps) []) (All-get_or IsKept (p ∷ ps) (length ps) [] (omega arith) (All-from_recursion IsKept (p ∷ ps) all)))

abbrev text_of : List (List ℕ) → Bool → List ℕ
text_of ks opens = codes "/" ++ (join_with_byte slash ks ++ closing_slash opens ks)

again : (ks : List (List ℕ)) (opens : Bool) → AllByRecursion IsKept ks → norm_of (segments (text_of ks opens)) ≡ text_of ks opens
again [] true all = refl
again [] false all = refl
again (k ∷ ks) true all =
    let joined : join_with_byte slash (k ∷ ks) ++ codes "/" ≡ join_with_byte slash (k ∷ (ks ++ [] ∷ [])) = sym (join_more slash (k ∷ ks) []) in
    let cut : slice_split (λ b. b == slash) (join_with_byte slash (k ∷ ks) ++ codes "/") ≡ k ∷ (ks ++ [] ∷ []) =
    ap (slice_split (λ b. b == slash)) joined ∙ split_joined slash k (ks ++ [] ∷ []) (lacking_push (k ∷ ks) (lacking (k ∷ ks) all)) in
    let same : kept ([] ∷ k ∷ (ks ++ [] ∷ [])) ≡ k ∷ ks =
    fold-append kept_after [] (k ∷ ks) ([] ∷ []) ∙ ap (λ (front : List (List ℕ)). kept_after front []) (kept_again [] (k ∷ ks) all) in
    let ended : ends_open ([] ∷ k ∷ (ks ++ [] ∷ [])) ≡ true = ends_push ([] ∷ k ∷ ks) [] in
    ap (λ (rest : List (List ℕ)). norm_of ([] ∷ rest)) cut
    ∙ ap (λ (front : List (List ℕ)). text_of front (ends_open ([] ∷ k ∷ (ks ++ [] ∷ [])))) same
    ∙ ap (text_of (k ∷ ks)) ended
again (k ∷ ks) false all =
    let cut : slice_split (λ b. b == slash) (join_with_byte slash (k ∷ ks) ++ []) ≡ k ∷ ks =
    ap (slice_split (λ b. b == slash)) (append-nil (join_with_byte slash (k ∷ ks))) ∙ split_joined slash k ks (lacking (k ∷ ks) all) in
    ap (λ (rest : List (List ℕ)). norm_of ([] ∷ rest)) cut
    ∙ ap (λ (front : List (List ℕ)). text_of front (ends_open ([] ∷ k ∷ ks))) (kept_again [] (k ∷ ks) all)
    ∙ ap (text_of (k ∷ ks)) (last_kept [] k ks all)

pub norm_twice : (path : List ℕ) → norm (norm path) ≡ norm path
unfolding norm
norm_twice path =
    let ps = segments path in
    again (kept ps) (ends_open ps) (recursion_from_All IsKept (kept ps) (all_kept [] ps (All-nil IsKept) (split_lacks slash path)))
