-- How long the text of data and trailers is.
use Rattle.std.proofs.Common.{◌≡◌, ℕ, zero, suc, ◌+◌, ◌*◌, ◌/◌, ◌%◌, ◌<◌, ◌≤◌, ◌^◌, Bool, true, false, nat_lt, if◌then◌else◌, Option, Some, List, [], ◌∷◌, ◌++◌, length, length-drop, take, drop, take_all, map, None, refl, ap, sym, subst, ◌∙◌, arith}
use Rattle.std.specs.Prelude.{IfSome}
use Rattle.std.specs.List.{flat_map}
use Rattle.std.proofs.lemmas.List.{drop_all, length-append, length-take}
use Rattle.std.proofs.lemmas.List.Concat.{length-flat_map}
use Rattle.std.proofs.lemmas.List.Sums.{sum-map}
use Rattle.std.proofs.lemmas.Nat.{div-add-mod', mod_below}
use Rattle.aws_chunked.specs.Body.{Trailer, lines_length}
use Rattle.aws_chunked.specs.Lengths.{IsLengthOf}
use Rattle.aws_chunked.specs.Options.{IsChunkSize, Options, chunk_length, chunks_length, encoded_length, fitting, head_length, last_length}
use Rattle.aws_chunked.specs.Text.{Part, chunk, chunk_text, chunked_text, crlf, pieces_of_size, head_text, length_text, part_text, parts_text, tail, tail_text, trailer_line}
use Rattle.aws_chunked.proofs.CutLemmas.{cut_first, cut_none}

pub head_long : (n : ℕ) → length (head_text n None) ≡ head_length false n
head_long n = omega (arith, length-append (length_text n ++ []) crlf, length-append (length_text n) [])

chunk_long : (piece : List ℕ) → length (chunk_text None piece) ≡ chunk_length false (length piece)
unfolding chunk_text
chunk_long piece =
    omega (
      arith,
      length-append (head_text (length piece) None ++ piece) crlf,
      length-append (head_text (length piece) None) piece,
      head_long (length piece),
    )

pub lines_long : (trailers : List Trailer) → length (flat_map trailer_line trailers) ≡ lines_length trailers
lines_long trailers = length-flat_map trailer_line trailers ∙ sym (sum-map (λ (t : Trailer). length (trailer_line t)) trailers)

tail_long : (trailers : List Trailer) → length (tail_text None trailers None) ≡ head_length false 0 + lines_length trailers + 2
unfolding tail_text
tail_long trailers =
    omega (
      arith,
      length-append (head_text 0 None ++ flat_map trailer_line trailers ++ []) crlf,
      length-append (head_text 0 None ++ flat_map trailer_line trailers) [],
      length-append (head_text 0 None) (flat_map trailer_line trailers),
      head_long 0,
      lines_long trailers,
    )

-- how long the chunks of pieces are
unfoldable pub pieces_length : Bool → List (List ℕ) → ℕ
pieces_length is_signed [] = 0
pieces_length is_signed (piece ∷ pieces) = chunk_length is_signed (length piece) + pieces_length is_signed pieces

last_long : (is_signed : Bool) (n : ℕ) → 0 < n → last_length is_signed n ≡ chunk_length is_signed n
last_long is_signed zero some = absurd (omega (arith, some))
last_long is_signed (suc n) some = refl

-- full chunks, and one of the rest
pub cut_long : (is_signed : Bool) (q size r : ℕ) (bytes : List ℕ) → r < size → length bytes ≡ q * size + r
    → pieces_length is_signed (pieces_of_size size bytes) ≡ q * chunk_length is_signed size + last_length is_signed r
unfolding pieces_length
cut_long is_signed zero size zero [] small is = ap (pieces_length is_signed) (cut_none size) ∙ grind arith
cut_long is_signed zero size (suc r) [] small is = absurd (grind (arith, is))
cut_long is_signed (suc q) size r [] small is = absurd (grind (arith, is, small))
cut_long is_signed zero size r (byte ∷ bytes) small is =
    ap (pieces_length is_signed)
    (cut_first size (byte ∷ bytes) (omega (arith, small)) (omega arith)
    ∙ (λ i. take_all size (byte ∷ bytes) (omega (arith, long, small)) i ∷ (ap (pieces_of_size size) (drop_all size (byte ∷ bytes) (omega (arith, long, small))) ∙ cut_none size) i))
    ∙ grind (arith, ap (chunk_length is_signed) long, last_long is_signed r (omega (arith, long)))
  where
    long : length (byte ∷ bytes) ≡ r
    long = grind (arith, is)
cut_long is_signed (suc q) size r (byte ∷ bytes) small is =
    ap (pieces_length is_signed) (cut_first size (byte ∷ bytes) (omega (arith, small)) (omega arith))
    ∙ grind (arith, ap (chunk_length is_signed) taken, cut_long is_signed q size r (drop size (byte ∷ bytes)) small dropped)
  where
    enough : size ≤ length (byte ∷ bytes)
    enough = grind (arith, is)

    taken : length (take size (byte ∷ bytes)) ≡ size
    taken = omega (arith, length-take size (byte ∷ bytes), enough)

    dropped : length (drop size (byte ∷ bytes)) ≡ q * size + r
    dropped = grind (arith, length-drop size (byte ∷ bytes), is)

chunks_long : (pieces : List (List ℕ)) → length (parts_text (map chunk pieces)) ≡ pieces_length false pieces
unfolding pieces_length
chunks_long [] = refl
chunks_long (piece ∷ pieces) =
    omega (arith, length-append (chunk_text None piece) (parts_text (map chunk pieces)), chunk_long piece, chunks_long pieces)

append_parts : (parts more : List Part) → length (parts_text (parts ++ more)) ≡ length (parts_text parts) + length (parts_text more)
append_parts [] more = omega arith
append_parts (part ∷ parts) more =
    omega (
      arith,
      length-append (part_text part) (parts_text (parts ++ more)),
      length-append (part_text part) (parts_text parts),
      append_parts parts more,
    )

-- the text of an unsigned body has the length that its options tell
pub text_long : (options : Options) → 1 ≤ options.chunk_size → options.is_signed ≡ false → IsLengthOf options (encoded_length options)
unfolding encoded_length chunked_text
text_long options some unsigned bytes trailers long =
    omega (
      arith,
      append_parts (map chunk (pieces_of_size size bytes)) (tail trailers ∷ []),
      length-append (tail_text None trailers None) [],
      tail_long trailers,
      chunks_long (pieces_of_size size bytes),
      cut_long false (length bytes / size) size (length bytes % size) bytes (mod_below (length bytes) size (omega (arith, some))) (sym (div-add-mod' (length bytes) size)),
      ap (λ n. (n / size) * chunk_length false size + last_length false (n % size)) long,
      signs,
    )
  where
    size : ℕ
    size = options.chunk_size

    signs : chunks_length options ≡ (options.stream_length / size) * chunk_length false size + last_length false (options.stream_length % size) + head_length false 0 + 2
    signs = ap (λ (b : Bool). (options.stream_length / size) * chunk_length b size + last_length b (options.stream_length % size) + head_length b 0 + 2) unsigned

pub text_told : (options : Options) (n : ℕ) → n ≡ encoded_length options → IsChunkSize options.chunk_size → options.is_signed ≡ false → IsLengthOf options n
text_told options n is size unsigned = subst (IsLengthOf options) (sym is) (text_long options size.0 unsigned)

pub told_some : (options : Options) (found : Option ℕ) → found ≡ fitting (encoded_length options) → IsChunkSize options.chunk_size
    → IfSome found (λ n. options.is_signed ≡ false → IsLengthOf options n)
told_some options None is size = tt
told_some options (Some n) is size = λ unsigned. text_told options n (by (nat_lt (encoded_length options) (2 ^ 64)) is) size unsigned
  where
    by : (b : Bool) → Some n ≡ (if b then Some (encoded_length options) else None) → n ≡ encoded_length options
    by true same = (let is : ◌≡◌ {A = Option ℕ} (Some n) (Some (encoded_length options)) = same in cc)
    by false same = (let is : ◌≡◌ {A = Option ℕ} (Some n) None = same in cc)

pub told_in : (options : Options) (found : Option ℕ) (n : ℕ) → IfSome found (λ m. options.is_signed ≡ false → IsLengthOf options m) → found ≡ Some n
    → options.is_signed ≡ false → IsLengthOf options n
told_in options found n told is = subst (λ (o : Option ℕ). IfSome o (λ m. options.is_signed ≡ false → IsLengthOf options m)) is told
