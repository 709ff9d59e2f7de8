-- A whole text, from its first length on.
use Rattle.std.proofs.Common.{◌≡◌, ℕ, zero, suc, ◌+◌, ◌<◌, ◌≤◌, Bool, true, false, nat_lt, List, [], ◌∷◌, ◌++◌, length, length-append, length-drop, take, drop, Option, Some, None, inl, inr, refl, ap, sym, subst, ◌∙◌, arith, append_assoc, append-nil, take-append-drop, take_at, drop_at, take_all}
use Rattle.std.specs.Prelude.{if◌then◌else◌}
use Rattle.std.specs.List.{AllByRecursion, concat, flat_map}
use Rattle.std.proofs.lemmas.Bool.{cases_lt, ltb-false}
use Rattle.std.proofs.lemmas.List.{drop_all}
use Rattle.aws_chunked.specs.Body.{Trailer}
use Rattle.aws_chunked.specs.Decoded.{IsPiecesText, IsTextOf, IsTrailer, TakesSignature}
use Rattle.aws_chunked.specs.Rests.{ChunkRest, ChunksThen, FollowsFront, IsSignedBy, WholeSays, one_or_none, most_after}
use Rattle.aws_chunked.specs.Text.{chunk_text, crlf, pieces_of_size, cut_within, head_text, last_line, length_text, signature_text, tail_text, trailer_line}
use Rattle.aws_chunked.proofs.CutLemmas.{cut_first, cut_none}
use Rattle.aws_chunked.proofs.FollowLemmas.{follows_as, says_same}

-- ## Pieces of one size

-- each has the size, but the last, which may have less
AreCut : ℕ → List (List ℕ) → Type 0
AreCut size [] = Unit {0}
AreCut size (piece ∷ pieces) = (0 < length piece) × (length piece ≤ size) × (length piece < size → pieces ≡ []) × AreCut size pieces

first_length : List (List ℕ) → ℕ
first_length [] = 0
first_length (piece ∷ pieces) = length piece

within_none : (k size : ℕ) → cut_within k size [] ≡ []
unfolding cut_within
within_none k size = refl

short_front : (size : ℕ) (bytes : List ℕ) → length (take size bytes) + length (drop size bytes) ≡ length bytes
short_front size bytes = sym (length-append (take size bytes) (drop size bytes)) ∙ ap length (take-append-drop size bytes)

within_are : (k size : ℕ) (bytes : List ℕ) → 0 < size → AreCut size (cut_within k size bytes)
unfolding cut_within AreCut
within_are k size [] some = tt
within_are zero size (byte ∷ bytes) some = tt
within_are (suc k) size (byte ∷ bytes) some =
    let all = byte ∷ bytes in
    let parts = short_front size all in
    let dropped = length-drop size all in (
      omega (arith, some, parts, dropped),
      omega (arith, some, parts, dropped),
      λ short. ap (cut_within k size) (drop_all size all (omega (arith, short, parts, dropped))) ∙ within_none k size,
      within_are k size (drop size all) some,
    )

cut_are : (size : ℕ) (bytes : List ℕ) → 0 < size → AreCut size (pieces_of_size size bytes)
unfolding pieces_of_size
cut_are size bytes some = within_are (length bytes) size bytes some

within_whole : (k size : ℕ) (bytes : List ℕ) → 0 < size → length bytes ≤ k → concat (cut_within k size bytes) ≡ bytes
unfolding cut_within
within_whole k size [] some low = refl
within_whole zero size (byte ∷ bytes) some low = absurd (omega (arith, low))
within_whole (suc k) size (byte ∷ bytes) some low =
    let all = byte ∷ bytes in
    ap (λ (r : List ℕ). take size all ++ r) (within_whole k size (drop size all) some (omega (arith, some, low, length-drop size all)))
    ∙ take-append-drop size all

cut_whole : (size : ℕ) (bytes : List ℕ) → 0 < size → concat (pieces_of_size size bytes) ≡ bytes
unfolding pieces_of_size
cut_whole size bytes some = within_whole (length bytes) size bytes some (omega arith)

-- a piece before others has the size
full_piece : (size : ℕ) (piece next : List ℕ) (pieces : List (List ℕ)) → AreCut size (piece ∷ next ∷ pieces) → length piece ≡ size
unfolding AreCut
full_piece size piece next pieces are =
    elim (cases_lt (length piece) size) [ inl short ↦ absurd (omega (arith, ap length (are.2 short))) | inr long ↦ omega (arith, long, are.1) ]

cut_of : (size : ℕ) (pieces : List (List ℕ)) → 0 < size → AreCut size pieces → pieces_of_size size (concat pieces) ≡ pieces
unfolding AreCut
cut_of size [] some are = cut_none size
cut_of size (piece ∷ []) some are =
    let whole = append-nil piece in
    let low : length (piece ++ []) ≤ size = omega (arith, are.1, ap length whole) in
    cut_first size (piece ++ []) some (omega (arith, are.0, ap length whole))
    ∙ (λ i. (take_all size (piece ++ []) low ∙ whole) i ∷ pieces_of_size size (drop_all size (piece ++ []) low i))
    ∙ ap (λ (r : List (List ℕ)). piece ∷ r) (cut_none size)
cut_of size (piece ∷ next ∷ pieces) some are =
    let all = concat (next ∷ pieces) in
    let full = full_piece size piece next pieces are in
    cut_first size (piece ++ all) some (omega (arith, are.0, length-append piece all))
    ∙ (λ i. take_at piece all size full i ∷ pieces_of_size size (drop_at piece all size full i))
    ∙ ap (λ (r : List (List ℕ)). piece ∷ r) (cut_of size (next ∷ pieces) some are.3)

-- pieces of some size have that of the first
shrink : (size : ℕ) (pieces : List (List ℕ)) → AreCut size pieces → AreCut (first_length pieces) pieces
unfolding AreCut first_length
shrink size [] are = tt
shrink size (piece ∷ []) are = (are.0, omega arith, λ short. refl, tt)
shrink size (piece ∷ next ∷ pieces) are =
    subst (λ (n : ℕ). AreCut n (piece ∷ next ∷ pieces)) (sym (full_piece size piece next pieces are)) are

first_low : (size : ℕ) (pieces : List (List ℕ)) → AreCut size pieces → first_length pieces ≤ size
unfolding AreCut first_length
first_low size [] are = omega arith
first_low size (piece ∷ pieces) are = are.1

none_first : (size : ℕ) (pieces : List (List ℕ)) → AreCut size pieces → first_length pieces ≤ 0 → pieces ≡ []
unfolding AreCut first_length
none_first size [] are none = refl
none_first size (piece ∷ pieces) are none = absurd (omega (arith, are.0, none))

-- ## Signatures

pub takes_given : (is_signed : Bool) (signature : Option (List ℕ)) (others : List (List ℕ)) → IsSignedBy is_signed signature
    → TakesSignature is_signed (one_or_none signature ++ others) signature others
takes_given false None others signed = (refl, refl)
takes_given false (Some signature) others signed = absurd signed
takes_given true None others signed = absurd signed
takes_given true (Some signature) others signed = (signed, refl)

pub takes_is : (is_signed : Bool) (before : List (List ℕ)) (signature : Option (List ℕ)) (after : List (List ℕ)) → TakesSignature is_signed before signature after
    → IsSignedBy is_signed signature × (before ≡ one_or_none signature ++ after)
takes_is false before signature after takes =
    subst (λ (o : Option (List ℕ)). IsSignedBy false o × (before ≡ one_or_none o ++ after)) (sym takes.0) (tt, sym takes.1)
takes_is true before None after takes = absurd takes
takes_is true before (Some signature) after takes = (takes.0, takes.1)

-- ## Lengths behind a chunk

after_low : (size n m : ℕ) → m ≤ most_after size n → m ≤ size
after_low size n m low = by (nat_lt n size) low
  where
    by : (b : Bool) → m ≤ (if b then 0 else size) → m ≤ size
    by true less = omega (arith, less)
    by false less = less

after_none : (size n m : ℕ) → m ≤ most_after size n → n < size → m ≤ 0
after_none size n m low short = by (nat_lt n size) refl low
  where
    by : (b : Bool) → nat_lt n size ≡ b → m ≤ (if b then 0 else size) → m ≤ 0
    by true is less = less
    by false is less = absurd (omega (arith, ltb-false n size is, short))

most_low : (size n m : ℕ) → m ≤ size → (n < size → m ≤ 0) → m ≤ most_after size n
most_low size n m low none = by (nat_lt n size) refl
  where
    by : (b : Bool) → nat_lt n size ≡ b → m ≤ (if b then 0 else size)
    by true is = none (lt n size is)
      where
        lt : (x y : ℕ) → nat_lt x y ≡ true → x < y
        lt x y less = grind arith
    by false is = low

pub after_bound : (size n : ℕ) → most_after size n ≤ size
after_bound size n = after_low size n (most_after size n) (omega arith)

-- ## From the rest to the text

-- the tail behind the line of the empty chunk
tail_read : (n : ℕ) (signature last : Option (List ℕ)) (trailers : List Trailer) (text : List ℕ) → n ≡ 0
    → text ≡ flat_map trailer_line trailers ++ last_line last ++ crlf → head_text n signature ++ text ≡ tail_text signature trailers last
unfolding tail_text
tail_read n signature last trailers text none is =
    let head = head_text 0 signature in
    let lines = flat_map trailer_line trailers in
    ap (λ (k : ℕ). head_text k signature ++ text) none
    ∙ ap (λ (t : List ℕ). head ++ t) is ∙ sym (append_assoc head (lines ++ last_line last) crlf)
    ∙ ap (λ (t : List ℕ). t ++ crlf) (sym (append_assoc head lines (last_line last)))

-- a chunk behind its line
chunk_read : (n m : ℕ) (signature next : Option (List ℕ)) (piece text behind after rest : List ℕ) → length piece ≡ n → text ≡ (piece ++ crlf) ++ behind
    → behind ≡ length_text m ++ after → after ≡ (signature_text next ++ crlf) ++ rest
    → head_text n signature ++ text ≡ chunk_text signature piece ++ (head_text m next ++ rest)
unfolding chunk_text
chunk_read n m signature next piece text behind after rest long first second third =
    let head = head_text (length piece) signature in
    ap (λ (k : ℕ). head_text k signature ++ text) (sym long)
    ∙ ap (λ (t : List ℕ). head ++ t) (
    first ∙ ap (λ (t : List ℕ). (piece ++ crlf) ++ t) (
    second ∙ ap (λ (t : List ℕ). length_text m ++ t) third ∙ sym (append_assoc (length_text m) (signature_text next ++ crlf) rest)
    ∙ ap (λ (t : List ℕ). t ++ rest) (sym (append_assoc (length_text m) (signature_text next) crlf)))
    )
    ∙ sym (append_assoc head (piece ++ crlf) (head_text m next ++ rest))
    ∙ ap (λ (t : List ℕ). t ++ (head_text m next ++ rest)) (sym (append_assoc head piece crlf))

-- the pieces of a rest
record Pieces (is_signed : Bool) (size n : ℕ) (body : List ℕ) (signatures : List (List ℕ)) (trailers : List Trailer) (text : List ℕ) : Type 0 where
  pieces : List (List ℕ)
  are_cut : AreCut size pieces
  first : first_length pieces ≡ n
  body_is : body ≡ concat pieces
  trailers_are : AllByRecursion IsTrailer trailers
  goes_on : (signature : Option (List ℕ)) → IsSignedBy is_signed signature
      → IsPiecesText is_signed pieces (one_or_none signature ++ signatures) trailers (head_text n signature ++ text)

same_signatures : (is_signed : Bool) (pieces ss ts : List (List ℕ)) (trailers : List Trailer) (text other : List ℕ) → ts ≡ ss → other ≡ text
    → IsPiecesText is_signed pieces ss trailers text → IsPiecesText is_signed pieces ts trailers other
same_signatures is_signed pieces ss ts trailers text other signatures texts is =
    subst (λ (xs : List (List ℕ)). IsPiecesText is_signed pieces xs trailers other) (sym signatures)
    (subst (λ (t : List ℕ). IsPiecesText is_signed pieces ss trailers t) (sym texts) is)

pieces_of : (is_signed : Bool) (size k n : ℕ) (body : List ℕ) (signatures : List (List ℕ)) (trailers : List Trailer) (text : List ℕ) → n ≤ size
    → ChunksThen is_signed size k n body signatures trailers text → Pieces is_signed size n body signatures trailers text
unfolding AreCut first_length
pieces_of is_signed size zero n body signatures trailers text low is =
    let tail = is.1.1 in record {
      pieces = [];
      are_cut = tt;
      first = sym is.0;
      body_is = is.1.0;
      trailers_are = tail.1;
      goes_on = λ signature signed. (
        signature,
        signatures,
        tail.0,
        takes_given is_signed signature signatures signed,
        tail.2,
        tail_read n signature tail.0 trailers text is.0 tail.3,
      );
    }
pieces_of is_signed size (suc k) n body signatures trailers text low is =
    let some = is.0 in
    let chunk_ = is.1 in
    let piece = chunk_.0 in
    let long = chunk_.3 in
    let next = chunk_.6 in
    let m = next.0 in
    let end = next.4 in
    let more = pieces_of is_signed size k m chunk_.1 end.1 trailers end.2 (after_low size n m next.2) end.6 in record {
      pieces = piece ∷ more.pieces;
      are_cut = (
        omega (arith, some, long),
        omega (arith, low, long),
        λ short. none_first size more.pieces more.are_cut (omega (arith, after_none size n m next.2 (omega (arith, short, long)), more.first)),
        more.are_cut,
      );
      first = long;
      body_is = chunk_.4 ∙ ap (λ (b : List ℕ). piece ++ b) more.body_is;
      trailers_are = more.trailers_are;
      goes_on = λ signature signed. (
        signature,
        signatures,
        head_text m end.0 ++ end.2,
        takes_given is_signed signature signatures signed,
        chunk_read n m signature end.0 piece text chunk_.2 next.1 end.2 long chunk_.5 next.3 end.5,
        same_signatures is_signed more.pieces (one_or_none end.0 ++ end.1) signatures trailers (head_text m end.0 ++ end.2) (head_text m end.0 ++ end.2) end.4 refl
            (more.goes_on end.0 end.3),
      );
    }

-- data in no pieces, or in those of the size, has a size
text_of : (size : ℕ) (is_signed : Bool) (pieces : List (List ℕ)) (body : List ℕ) (signatures : List (List ℕ)) (trailers : List Trailer) (text : List ℕ) → body ≡ concat pieces
    → size ≤ 4294967295 → AreCut size pieces → AllByRecursion IsTrailer trailers → IsPiecesText is_signed pieces signatures trailers text
    → IsTextOf body signatures trailers text
unfolding AreCut
text_of zero is_signed [] body signatures trailers text same bound cuts are is = record {
  size = 1;
  size_in_range = (omega arith, omega arith);
  is_signed = is_signed;
  trailers_are = are;
  is_text = subst (λ (ps : List (List ℕ)). IsPiecesText is_signed ps signatures trailers text) (sym (ap (pieces_of_size 1) same ∙ cut_none 1)) is;
}
text_of zero is_signed (piece ∷ pieces) body signatures trailers text same bound cuts are is = absurd (omega (arith, cuts.0, cuts.1))
text_of (suc size) is_signed pieces body signatures trailers text same bound cuts are is = record {
  size = suc size;
  size_in_range = (omega arith, bound);
  is_signed = is_signed;
  trailers_are = are;
  is_text = subst (λ (ps : List (List ℕ)). IsPiecesText is_signed ps signatures trailers text)
      (sym (ap (pieces_of_size (suc size)) same ∙ cut_of (suc size) pieces (omega arith) cuts)) is;
}

whole_text : (body : List ℕ) (signatures : List (List ℕ)) (trailers : List Trailer) (text : List ℕ) → WholeSays body signatures trailers text
    → IsTextOf body signatures trailers text
whole_text body signatures trailers text is =
    let n = is.0 in
    let first = is.4 in
    let is_signed = first.0 in
    let end = first.1 in
    let found = pieces_of is_signed n end.6.0 n body end.1 trailers end.2 (omega arith) end.6.1 in
    text_of n is_signed found.pieces body signatures trailers text found.body_is is.2 found.are_cut found.trailers_are
    (same_signatures is_signed found.pieces (one_or_none end.0 ++ end.1) signatures trailers (head_text n end.0 ++ end.2) text end.4
    (is.3 ∙ ap (λ (t : List ℕ). length_text n ++ t) end.5 ∙ sym (append_assoc (length_text n) (signature_text end.0 ++ crlf) end.2)
    ∙ ap (λ (t : List ℕ). t ++ end.2) (sym (append_assoc (length_text n) (signature_text end.0) crlf)))
    (found.goes_on end.0 end.3))

-- ## From the text to the rest

-- the line before the first piece, and the rest
record Lined (is_signed : Bool) (size : ℕ) (pieces : List (List ℕ)) (signatures : List (List ℕ)) (trailers : List Trailer) (text : List ℕ) : Type 0 where
  signature : Option (List ℕ)
  others : List (List ℕ)
  rest : List ℕ
  signed : IsSignedBy is_signed signature
  signatures_are : signatures ≡ one_or_none signature ++ others
  text_is : text ≡ length_text (first_length pieces) ++ ((signature_text signature ++ crlf) ++ rest)
  goes_on : ChunkRest is_signed size (first_length pieces) (concat pieces) others trailers rest

tail_lined : (signature last : Option (List ℕ)) (trailers : List Trailer) (text : List ℕ) → text ≡ tail_text signature trailers last
    → text ≡ length_text 0 ++ ((signature_text signature ++ crlf) ++ (flat_map trailer_line trailers ++ last_line last ++ crlf))
unfolding tail_text
tail_lined signature last trailers text is =
    let lines = flat_map trailer_line trailers in
    let end = signature_text signature in
    let head = head_text 0 signature in
    is
    ∙ ap (λ (t : List ℕ). t ++ crlf) (append_assoc head lines (last_line last))
    ∙ append_assoc head (lines ++ last_line last) crlf
    ∙ ap (λ (t : List ℕ). t ++ ((lines ++ last_line last) ++ crlf)) (append_assoc (length_text 0) end crlf)
    ∙ append_assoc (length_text 0) (end ++ crlf) ((lines ++ last_line last) ++ crlf)

chunk_lined : (signature : Option (List ℕ)) (piece text rest : List ℕ) → text ≡ chunk_text signature piece ++ rest
    → text ≡ length_text (length piece) ++ ((signature_text signature ++ crlf) ++ ((piece ++ crlf) ++ rest))
unfolding chunk_text
chunk_lined signature piece text rest is =
    let start = length_text (length piece) in
    let end = signature_text signature in
    let head = head_text (length piece) signature in
    is
    ∙ ap (λ (t : List ℕ). t ++ rest) (append_assoc head piece crlf)
    ∙ append_assoc head (piece ++ crlf) rest
    ∙ ap (λ (t : List ℕ). t ++ ((piece ++ crlf) ++ rest)) (append_assoc start end crlf)
    ∙ append_assoc start (end ++ crlf) ((piece ++ crlf) ++ rest)

lined : (is_signed : Bool) (size : ℕ) (pieces signatures : List (List ℕ)) (trailers : List Trailer) (text : List ℕ) → AreCut size pieces
    → AllByRecursion IsTrailer trailers → IsPiecesText is_signed pieces signatures trailers text → Lined is_signed size pieces signatures trailers text
unfolding AreCut first_length
lined is_signed size [] signatures trailers text cuts are is =
    let signed = takes_is is_signed signatures is.0 is.1 is.3 in
    let rest = flat_map trailer_line trailers ++ last_line is.2 ++ crlf in record {
      signature = is.0;
      others = is.1;
      rest = rest;
      signed = signed.0;
      signatures_are = signed.1;
      text_is = tail_lined is.0 is.2 trailers text is.5;
      goes_on = (0, (refl, (refl, (is.2, are, is.4, refl))));
    }
lined is_signed size (piece ∷ pieces) signatures trailers text cuts are is =
    let signed = takes_is is_signed signatures is.0 is.1 is.3 in
    let more = lined is_signed size pieces is.1 trailers is.2 cuts.3 are is.5 in record {
      signature = is.0;
      others = is.1;
      rest = (piece ++ crlf) ++ is.2;
      signed = signed.0;
      signatures_are = signed.1;
      text_is = chunk_lined is.0 piece text is.2 is.4;
      goes_on = (
        suc more.goes_on.0,
        (
          cuts.0,
          (
            piece,
            concat pieces,
            is.2,
            refl,
            refl,
            refl,
            (
              first_length pieces,
              (signature_text more.signature ++ crlf) ++ more.rest,
              most_low size (length piece) (first_length pieces) (first_low size pieces cuts.3)
                  (λ short. omega (arith, ap first_length (cuts.2 short))),
              more.text_is,
              (more.signature, more.others, more.rest, more.signed, more.signatures_are, refl, more.goes_on.1),
            ),
          ),
        ),
      );
    }

text_whole : (body : List ℕ) (signatures : List (List ℕ)) (trailers : List Trailer) (text : List ℕ) → IsTextOf body signatures trailers text
    → WholeSays body signatures trailers text
text_whole body signatures trailers text is =
    let pieces = pieces_of_size is.size body in
    let some : 0 < is.size = omega (arith, is.size_in_range.0) in
    let cuts = cut_are is.size body some in
    let n = first_length pieces in
    let low = first_low is.size pieces cuts in
    let found = lined is.is_signed n pieces signatures trailers text (shrink is.size pieces cuts) is.trailers_are is.is_text in (
      n,
      (signature_text found.signature ++ crlf) ++ found.rest,
      omega (arith, low, is.size_in_range.1),
      found.text_is,
      (
        is.is_signed,
        (
          found.signature,
          found.others,
          found.rest,
          found.signed,
          found.signatures_are,
          refl,
          says_same (ChunkRest is.is_signed n n) (concat pieces) body found.others found.others trailers found.rest found.rest (sym (cut_whole is.size body some)) refl refl
              found.goes_on,
        ),
      ),
    )

-- a whole text is one from its first length on
pub follows_whole : (rest : List ℕ) → FollowsFront IsTextOf WholeSays [] [] [] rest
follows_whole rest = follows_as IsTextOf WholeSays rest whole_text (λ body signatures trailers text same is. text_whole body signatures trailers text is)
