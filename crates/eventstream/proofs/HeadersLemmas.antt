-- Headers that are read one after the other.
use Rattle.std.proofs.Common.{◌≡◌, ℕ, zero, suc, ◌+◌, ◌-◌, ◌<◌, ◌≤◌, List, [], ◌∷◌, ◌++◌, length, Result, Ok, Err, inl, inr, refl, sym, ap, ◌∙◌, append_assoc, append-nil, arith}
use Rattle.std.proofs.lemmas.List.{length-append}
use Rattle.smithy_core.specs.Header.{Header}
use Rattle.eventstream.specs.declared.error.ErrorKind.{ErrorKind}
use Rattle.eventstream.specs.declared.error.Error.{Error}
use Rattle.eventstream.specs.Read.{header_within, headers_within, Fails}
use Rattle.eventstream.specs.Bind.{◌>>=◌}

-- headers before those that are read
abbrev pub before : List Header → Result (List Header) ErrorKind → Result (List Header) ErrorKind
before front read = read >>= λ others. Ok (front ++ others)

regroup : (front : List Header) (header : Header) (read : Result (List Header) ErrorKind)
    → before front (read >>= λ others. Ok (header ∷ others)) ≡ before (front ++ header ∷ []) read
regroup front header (Ok others) = ap (λ (headers : List Header). Ok headers) (sym (append_assoc front (header ∷ []) others))
regroup front header (Err kind) = refl

-- a header was read, and the others follow
step : (front : List Header) (most left : ℕ) (bytes after : List ℕ) (header : Header) → 0 < left → header_within left bytes ≡ Ok (header, after)
    → before front (headers_within (suc most) left bytes) ≡ before (front ++ header ∷ []) (headers_within most (left - (length bytes - length after)) after)
unfolding headers_within
step front most zero bytes after header some is = absurd (omega arith)
step front most (suc left) bytes after header some is = rw is (regroup front header (headers_within most (suc left - (length bytes - length after)) after))

pub goes_on : (front : List Header) (len left : ℕ) (bytes after : List ℕ) (header : Header) (total : Result (List Header) ErrorKind)
    → 0 < left → length front + left ≤ len → header_within left bytes ≡ Ok (header, after)
    → before front (headers_within (len - length front) left bytes) ≡ total
    → before (front ++ header ∷ []) (headers_within (len - length (front ++ header ∷ [])) (left - (length bytes - length after)) after) ≡ total
goes_on front len left bytes after header total some few is told =
    let longer : length (front ++ header ∷ []) ≡ length front + 1 = length-append front (header ∷ []) in
    let most : len - length front ≡ suc (len - length (front ++ header ∷ [])) = omega (arith, longer) in
    sym (step front (len - length (front ++ header ∷ [])) left bytes after header some is)
    ∙ ap (λ (k : ℕ). before front (headers_within k left bytes)) (sym most) ∙ told

fault_first : (front : List Header) (most left : ℕ) (bytes : List ℕ) (kind : ErrorKind) → 0 < left → header_within left bytes ≡ Err kind
    → before front (headers_within (suc most) left bytes) ≡ Err kind
unfolding headers_within
fault_first front most zero bytes kind some is = absurd (omega arith)
fault_first front most (suc left) bytes kind some is = rw is refl

-- a header is refused, and so are they all
pub ends : (e : Error) (front : List Header) (len left : ℕ) (bytes : List ℕ) (total : Result (List Header) ErrorKind)
    → 0 < left → length front + left ≤ len → Fails (header_within left bytes) e
    → before front (headers_within (len - length front) left bytes) ≡ total → Fails total e
ends e front len left bytes total some few (inr full) told = inr full
ends e front len left bytes total some few (inl is) told =
    let most : len - length front ≡ suc (len - length front - 1) = omega arith in
    inl (sym told ∙ ap (λ (k : ℕ). before front (headers_within k left bytes)) most ∙ fault_first front (len - length front - 1) left bytes e.kind some is)

-- nothing is left of the block
pub is_done : (front : List Header) (most left : ℕ) (bytes : List ℕ) (total : Result (List Header) ErrorKind)
    → left ≤ 0 → before front (headers_within most left bytes) ≡ total → total ≡ Ok front
unfolding headers_within
is_done front zero zero bytes total none told = sym told ∙ ap (λ (headers : List Header). Ok headers) (append-nil front)
is_done front (suc most) zero bytes total none told = sym told ∙ ap (λ (headers : List Header). Ok headers) (append-nil front)
is_done front most (suc left) bytes total none told = absurd (omega arith)
