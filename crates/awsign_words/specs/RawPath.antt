-- A URL whose path is written as it is, and goes out percent-encoded.
use Rattle.std.specs.Prelude.{ℕ, ◌==◌, nat_lt, if◌then◌else◌, List, [], ◌∷◌, ◌++◌, codes, length, Option, Some, None}
use Rattle.std.specs.List.{after_first, before_first, position_or_len}
use Rattle.smithy_http.specs.Escape.{escaped, greedy_set}

-- `/` and `?`
abbrev pub slash : ℕ
slash = 47

abbrev pub question_mark : ℕ
question_mark = 63

-- what stands before the first such byte and behind it, where there is one
abbrev pub cut_at : ℕ → List ℕ → Option (List ℕ × List ℕ)
cut_at mark text =
    if nat_lt (position_or_len (λ byte. byte == mark) text) (length text)
    then Some (before_first (λ byte. byte == mark) text, after_first (λ byte. byte == mark) text)
    else None

-- a path behind its first slash: each byte that is neither unreserved nor a slash is escaped, `%` too
abbrev pub encoded_path : List ℕ → List ℕ
encoded_path path = codes "/" ++ escaped greedy_set path

-- a host, and the path behind it
abbrev pub with_host : List ℕ → Option (List ℕ × List ℕ) → List ℕ
with_host text None = text
with_host text (Some parts) = parts.0 ++ encoded_path parts.1

-- what stands behind the first slash of a URL: behind a second one a host and its path
abbrev pub behind_scheme : List ℕ → Option (List ℕ × List ℕ) → List ℕ
behind_scheme text (Some ([], rest)) = codes "/" ++ with_host rest (cut_at slash rest)
behind_scheme text (Some (byte ∷ bytes, rest)) = text
behind_scheme text None = text

-- a URL before its query: a path alone, or a scheme, two slashes, a host and a path
abbrev pub with_scheme : List ℕ → Option (List ℕ × List ℕ) → List ℕ
with_scheme text (Some ([], path)) = encoded_path path
with_scheme text (Some (byte ∷ bytes, rest)) = (byte ∷ bytes) ++ (codes "/" ++ behind_scheme rest (cut_at slash rest))
with_scheme text None = text

-- a URL and its query, which stays
abbrev pub with_query : List ℕ → Option (List ℕ × List ℕ) → List ℕ
with_query url None = with_scheme url (cut_at slash url)
with_query url (Some parts) = with_scheme parts.0 (cut_at slash parts.0) ++ (codes "?" ++ parts.1)

-- the URL with its path encoded, which ends at the first `?`
unfoldable pub encoded_url : List ℕ → List ℕ
encoded_url url = with_query url (cut_at question_mark url)
