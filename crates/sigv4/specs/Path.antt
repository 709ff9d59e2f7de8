-- Paths of a canonical request: in their normal form (RFC 3986, section 5.2.4, with repeated slashes merged), and escaped.
use Rattle.std.specs.Prelude.{ℕ, ◌-◌, Bool, true, ◌||◌, ◌==◌, List, [], ◌∷◌, ◌++◌, codes, length, fold, map, take, slice_index_or, bytes_eq, if◌then◌else◌}
use Rattle.std.specs.Borrow.{Bor}
use Rattle.std.specs.List.{join_with_byte, slice_split}
use Rattle.http_uri.specs.ByteClasses.{slash}
use Rattle.smithy_http.specs.Escape.{escaped, greedy_set}
use Rattle.sigv4.specs.declared.modes.PercentEncodingMode.{PercentEncodingMode}
use Rattle.sigv4.specs.declared.modes.PercentEncodingMode.TheVariants.{Double, Single}
use Rattle.sigv4.specs.declared.modes.UriPathNormalizationMode.{UriPathNormalizationMode}
use Rattle.sigv4.specs.declared.modes.UriPathNormalizationMode.TheVariants.{Enabled, Disabled}

-- the segments between the slashes
abbrev pub segments : List ℕ → List (List ℕ)
segments path = slice_split (λ b. b == slash) path

-- a segment that is empty or `.`
abbrev pub is_dropped_segment : List ℕ → Bool
is_dropped_segment segment = bytes_eq segment [] || bytes_eq segment (codes ".")

-- the segment `..`
abbrev pub is_parent_segment : List ℕ → Bool
is_parent_segment segment = bytes_eq segment (codes "..")

-- the kept segments after one more: an empty segment and `.` are dropped, and `..` drops the kept segment before it, if any
abbrev pub kept_after : List (List ℕ) → List ℕ → List (List ℕ)
kept_after kept segment =
    if is_parent_segment segment then take (length kept - 1) kept
    else if is_dropped_segment segment then kept else kept ++ segment ∷ []

-- the segments that are kept
abbrev pub kept : List (List ℕ) → List (List ℕ)
kept segments = fold kept_after [] segments

-- the last segment of all is empty, `.` or `..`
abbrev pub ends_open : List (List ℕ) → Bool
ends_open segments = let last = slice_index_or segments (length segments - 1) [] in is_dropped_segment last || is_parent_segment last

-- what the segments point to
abbrev pub segment_texts : List (Bor (List ℕ)) → List (List ℕ)
segment_texts segments = map (λ segment. segment.now) segments

-- a segment after a slash
abbrev pub after_slash : List ℕ → List ℕ
after_slash segment = slash ∷ segment

-- one more `/` where the last segment of all names no file and any segment is kept
abbrev pub closing_slash : Bool → List (List ℕ) → List ℕ
closing_slash true (segment ∷ segments) = codes "/"
closing_slash is_open segments = []

-- `/`, the kept segments with `/` between, and the closing_slash
abbrev pub norm_of : List (List ℕ) → List ℕ
norm_of segments = codes "/" ++ (join_with_byte slash (kept segments) ++ closing_slash (ends_open segments) (kept segments))

-- the path in its normal form
unfoldable pub norm : List ℕ → List ℕ
norm path = norm_of (segments path)

-- the path, in its normal form unless that is disabled
abbrev pub normalized : UriPathNormalizationMode → List ℕ → List ℕ
normalized Enabled path = norm path
normalized Disabled path = path

-- the path, escaped once more unless it is to be escaped a single time: a service decodes the path once before it checks the signature
abbrev pub encoded_again : PercentEncodingMode → List ℕ → List ℕ
encoded_again Double path = escaped greedy_set path
encoded_again Single path = path

-- the path of a canonical request
unfoldable pub canonical_path : UriPathNormalizationMode → PercentEncodingMode → List ℕ → List ℕ
canonical_path normalization encoding path = encoded_again encoding (normalized normalization path)
