-- Queries of a canonical request.
use Rattle.std.specs.Prelude.{ℕ, Bool, List, [], ◌∷◌, map, string_bytes, unwrap_or, if◌then◌else◌}
use Rattle.std.specs.declared.alloc.Global.{Global}
use Rattle.std.specs.declared.string.String.{String}
use Rattle.std.specs.declared.cmp.Ordering.{Ordering}
use Rattle.std.specs.Cmp.Lexicographic.{slice_cmp}
use Rattle.std.specs.List.{join_with_byte}
use Rattle.std.specs.Ordering.{is_gt, nat_cmp, ordering_then}
use Rattle.std.specs.Str.Lossy.{utf8_lossy}
use Rattle.form_urlencoded.specs.Form.{decode, raw_pairs}
use Rattle.smithy_http.specs.QueryWriter.{escaped_pair}
use Rattle.smithy_http.specs.Query.{ampersand, pair_text}
use Rattle.smithy_http.specs.Target.{Target}

-- a key and its value
abbrev pub Pair : Type 0
Pair = List ℕ × List ℕ

-- the text that form decoding gives (URL Standard, section 5.1): `+` is a space, and U+FFFD stands for bytes that aren't UTF-8
abbrev pub decoded_text : List ℕ → List ℕ
decoded_text bytes = utf8_lossy (decode bytes)

-- a pair whose key and value are decoded
abbrev pub decoded_pair : Pair → Pair
decoded_pair p = (decoded_text p.0, decoded_text p.1)

-- the pairs that form decoding gives of a query
abbrev pub decoded_pairs : List ℕ → List Pair
decoded_pairs query = map decoded_pair (raw_pairs query)

-- the pairs of a target's query
unfoldable pub decoded : Target → List Pair
decoded target = decoded_pairs (unwrap_or target.query [])

-- by key, and then by value, in the order of their bytes
abbrev pub pair_cmp : Pair → Pair → Ordering
pair_cmp p q = ordering_then (slice_cmp nat_cmp p.0 q.0) (slice_cmp nat_cmp p.1 q.1)

-- the pair before the first one that isn't less
abbrev pub inserted_in_order : Pair → List Pair → List Pair
inserted_in_order p [] = p ∷ []
inserted_in_order p (q ∷ pairs) = if is_gt (pair_cmp p q) then q ∷ inserted_in_order p pairs else p ∷ q ∷ pairs

-- the pairs in ascending order
abbrev pub sorted : List Pair → List Pair
sorted [] = []
sorted (p ∷ pairs) = inserted_in_order p (sorted pairs)

-- what stands before a pair: `&`, unless it is the first
abbrev pub pair_separator : Bool → List ℕ
pair_separator is_first = if is_first then [] else ampersand ∷ []

-- the pairs as `key=value` with `&` between
abbrev pub joined_pairs : List Pair → List ℕ
joined_pairs pairs = join_with_byte ampersand (map pair_text pairs)

-- the pairs, escaped and then sorted, as `key=value` with `&` between
unfoldable pub query : List Pair → List ℕ
query pairs = joined_pairs (sorted (map escaped_pair pairs))

-- a pair of texts, as contracts see it
abbrev pub string_pair : String Global × String Global → Pair
string_pair p = (string_bytes p.0, string_bytes p.1)
