-- Queries, pair by pair.
use Rattle.std.proofs.Common.{◌≡◌, ℕ, zero, suc, ◌+◌, ◌<◌, ◌==◌, Bool, List, [], ◌∷◌, ◌++◌, length, map, take, get_or, refl, sym, ap, ◌∙◌, arith}
use Rattle.std.specs.declared.alloc.Global.{Global}
use Rattle.std.specs.declared.string.String.{String}
use Rattle.std.specs.List.{join_with_byte}
use Rattle.std.proofs.Math.Dec.{eqb-suc-zero}
use Rattle.std.proofs.lemmas.List.{map_more, map_push}
use Rattle.smithy_http.specs.Query.{ampersand, pair_text}
use Rattle.sigv4.specs.Query.{joined_pairs, pair_separator, string_pair}
use Rattle.sigv4.proofs.JoinLemmas.{is_none, join_more}

-- the first `i` are none exactly where `i` is 0
none_taken : (xs : List (String Global × String Global)) (i : ℕ) → i < length xs → is_none (map pair_text (map string_pair (take i xs))) ≡ (i == 0)
none_taken xs zero within = refl
none_taken [] (suc i) within = absurd (omega arith)
none_taken (x ∷ xs) (suc i) within = sym (eqb-suc-zero i)

-- one more pair
pub joined_more : (xs : List (String Global × String Global)) (i : ℕ) (x : String Global × String Global) → i < length xs → x ≡ get_or xs i x
    → joined_pairs (map string_pair (take (i + 1) xs)) ≡ joined_pairs (map string_pair (take i xs)) ++ (pair_separator (i == 0) ++ pair_text (string_pair x))
joined_more xs i x within is =
    let front = map string_pair (take i xs) in
    ap joined_pairs (map_more string_pair xs i x within ∙ ap (λ (y : String Global × String Global). front ++ string_pair y ∷ []) (sym is))
    ∙ ap (join_with_byte ampersand) (map_push pair_text front (string_pair x))
    ∙ join_more ampersand (map pair_text front) (pair_text (string_pair x))
    ∙ ap (λ (none : Bool). joined_pairs front ++ (pair_separator none ++ pair_text (string_pair x))) (none_taken xs i within)
