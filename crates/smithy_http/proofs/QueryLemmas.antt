-- Queries that are written piece by piece.
use Rattle.std.proofs.Common.{◌≡◌, ℕ, ◌<◌, true, List, [], ◌∷◌, ◌++◌, length, map, fold, Some, refl, sym, ap, ◌∙◌, append_assoc, append-nil, length-append, arith, codes}
use Rattle.std.specs.List.{join_with_byte}
use Rattle.smithy_http.specs.QueryWriter.{before_pair, with_pair, with_pairs}
use Rattle.smithy_http.specs.Query.{ampersand, before_pieces, pair_text, query_of, with_piece}
use Rattle.smithy_http.specs.Target.{Target}

-- a text with a piece, and more pieces
after_first : (text piece : List ℕ) (pieces : List (List ℕ)) → (fold with_piece (record { text = text ++ piece; has_piece = true }) pieces).text ≡ text ++ join_with_byte ampersand (piece ∷ pieces)
after_first text piece [] = refl
after_first text piece (next ∷ pieces) =
    let front = (text ++ piece) ++ codes "&" in
    let last = join_with_byte ampersand (next ∷ pieces) in
    ap (λ (t : List ℕ). (fold with_piece (record { text = t; has_piece = true }) pieces).text) (sym (append_assoc (text ++ piece) (codes "&") next))
    ∙ after_first front next pieces
    ∙ append_assoc (text ++ piece) (codes "&") last
    ∙ append_assoc text piece (codes "&" ++ last)

pub pieces_joined : (text : List ℕ) (pieces : List (List ℕ)) → (fold with_piece (before_pieces text) pieces).text ≡ text ++ query_of pieces
pieces_joined text [] = sym (append-nil text)
pieces_joined text (piece ∷ pieces) =
    ap (λ (t : List ℕ). (fold with_piece (record { text = t; has_piece = true }) pieces).text) (sym (append_assoc text (codes "?") piece))
    ∙ after_first (text ++ codes "?") piece pieces
    ∙ append_assoc text (codes "?") (join_with_byte ampersand (piece ∷ pieces))

before_some : (query : List ℕ) → 0 < length query → before_pair (Some query) ≡ query ++ codes "&"
before_some [] some = absurd (omega arith)
before_some (byte ∷ query) some = refl

-- a pair isn't empty, so one more comes after `&`
before_next : (query : List ℕ) (p : List ℕ × List ℕ) → before_pair (Some (query ++ pair_text p)) ≡ query ++ (pair_text p ++ codes "&")
before_next query p =
    before_some (query ++ pair_text p) (omega (arith, length-append query (pair_text p), length-append p.0 (codes "=" ++ p.1), length-append (codes "=") p.1))
    ∙ append_assoc query (pair_text p) (codes "&")

pub pairs_joined : (target : Target) (first : List ℕ × List ℕ) (more : List (List ℕ × List ℕ))
    → with_pairs target (first ∷ more) ≡ record target { query = Some (before_pair target.query ++ join_with_byte ampersand (map pair_text (first ∷ more))) }
pairs_joined target first [] = refl
pairs_joined target first (next ∷ more) =
    let query = before_pair target.query in
    let last = join_with_byte ampersand (map pair_text (next ∷ more)) in
    pairs_joined (with_pair target first.0 first.1) next more
    ∙ ap (λ (q : List ℕ). record target { query = Some q })
    (ap (λ (front : List ℕ). front ++ last) (before_next query first) ∙ append_assoc query (pair_text first ++ codes "&") last ∙ ap (λ (rest : List ℕ). query ++ rest) (append_assoc (pair_text first) (codes "&") last))
