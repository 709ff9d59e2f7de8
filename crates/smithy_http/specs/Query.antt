-- Queries of requests: pieces with `&` between, each a key with its value or a text alone.
use Rattle.std.specs.Prelude.{ℕ, Bool, true, false, List, [], ◌∷◌, ◌++◌, codes, if◌then◌else◌, String, string_bytes}
use Rattle.std.specs.Borrow.{MutBor}
use Rattle.std.specs.List.{join_with_byte}
use Rattle.std.specs.declared.alloc.Global.{Global}
use Rattle.smithy_http.specs.declared.query.Writer.{Writer}

-- `&`
abbrev pub ampersand : ℕ
ampersand = 38

-- a key with its value
abbrev pub pair : List ℕ → List ℕ → List ℕ
pair key value = key ++ (codes "=" ++ value)

-- the text of a pair
abbrev pub pair_text : List ℕ × List ℕ → List ℕ
pair_text p = pair p.0 p.1

-- `?` and the pieces with `&` between, or nothing where there are none
abbrev pub query_of : List (List ℕ) → List ℕ
query_of [] = []
query_of (piece ∷ pieces) = codes "?" ++ join_with_byte ampersand (piece ∷ pieces)

-- a text that ends with a query, and whether that has a piece yet
pub record Written : Type 0 where
  pub text : List ℕ
  pub has_piece : Bool

-- a writer that has put no piece after this text
abbrev pub before_pieces : List ℕ → Written
before_pieces text = record { text = text; has_piece = false }

-- one more piece: after `?` where it is the first, and after `&` where it isn't
abbrev pub with_piece : Written → List ℕ → Written
with_piece w piece = record { text = w.text ++ ((if w.has_piece then codes "&" else codes "?") ++ piece); has_piece = true }

-- the text that a writer holds and gives back
abbrev pub held_text : Writer → MutBor (String Global)
held_text w = w.out

-- the text of a writer, and whether it has put a piece there
abbrev pub written_query : Writer → Written
written_query w = record { text = string_bytes (held_text w).now; has_piece = w.has_piece }
