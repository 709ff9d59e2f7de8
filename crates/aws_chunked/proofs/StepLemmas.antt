-- The steps over the parts of a text, and where each stops.
use Rattle.std.proofs.Common.{◌≡◌, ℕ, zero, suc, ◌<◌, ◌≤◌, Bool, true, false, List, [], ◌∷◌, ◌++◌, length, length-append, replicate, All, IsTrue, Option, Some, None, refl, ap, sym, subst, ◌∙◌, arith, append_assoc, append-nil}
use Rattle.std.specs.Prelude.{codes}
use Rattle.std.specs.Str.Parse.{digits_value_after}
use Rattle.std.proofs.lemmas.List.{append_cancel_left, append_cancel_right, length-replicate}
use Rattle.std.proofs.lemmas.List.Elements.{All-cons, All-nil}
use Rattle.aws_chunked.specs.Body.{Trailer}
use Rattle.aws_chunked.specs.Decoded.{IsTextOf}
use Rattle.aws_chunked.specs.Reading.{BeginsOther, IsEndedLength, IsLength, Led, StopsWhere, is_length_digit}
use Rattle.aws_chunked.specs.Rests.{ChunkRest, ChunksThen, DataThen, FirstRest, FollowsFront, HeadEndThen, IsData, IsHeadEnd, IsSignedBy, IsTail, LengthThen, NextRest, Said, TextSays, TailSays, WholeSays, begins_with, one_or_none, most_after}
use Rattle.aws_chunked.specs.TailRests.{EndsRun}
use Rattle.aws_chunked.specs.Text.{crlf, length_text, signature_text}
use Rattle.aws_chunked.specs.declared.decode.fault.PartFault.{PartFault}
use Rattle.aws_chunked.proofs.FollowLemmas.{follows_as, follows_both, says_same, stops_rest}
use Rattle.aws_chunked.proofs.LengthTextLemmas.{AreDigits, text_digits, text_value}
use Rattle.aws_chunked.proofs.PieceLemmas.{after_bound, follows_whole}
use Rattle.aws_chunked.proofs.PlaceLemmas.{stops_first}
use Rattle.aws_chunked.proofs.RunLemmas.{same_begin, same_first, same_run, same_word}
use Rattle.aws_chunked.proofs.SignatureLemmas.{signature_long, some_signature, some_signed}

-- ## There are rests

pub tail_some : (is_signed : Bool) → IsTail is_signed [] [] crlf
tail_some is_signed = (None, tt, (refl, refl), refl)

-- something is said by some text
abbrev pub IsSome : TextSays → Type 0
IsSome Is = (text : List ℕ) × Said Is text

head_some : (is_signed : Bool) (Rest : TextSays) → IsSome Rest → IsSome (HeadEndThen is_signed Rest)
head_some is_signed Rest is =
    let signature = some_signature is_signed in (
      (signature_text signature ++ crlf) ++ is.0,
      (
        is.1.0,
        one_or_none signature ++ is.1.1,
        is.1.2,
        (signature, is.1.1, is.0, some_signed is_signed, refl, refl, is.1.3),
      ),
    )

chunk_none : (is_signed : Bool) (size : ℕ) → IsSome (ChunkRest is_signed size 0)
chunk_none is_signed size = (crlf, ([], [], [], (0, (refl, (refl, tail_some is_signed)))))

next_some : (is_signed : Bool) (size n : ℕ) → IsSome (NextRest is_signed size n)
next_some is_signed size n =
    let is = head_some is_signed (ChunkRest is_signed size 0) (chunk_none is_signed size) in (
      length_text 0 ++ is.0,
      (is.1.0, is.1.1, is.1.2, (0, is.0, omega arith, refl, is.1.3)),
    )

pub data_more : (is_signed : Bool) (size n : ℕ) (b : List ℕ) (s : List (List ℕ)) (t : List Trailer) (text : List ℕ) → 0 < n
    → DataThen n (NextRest is_signed size n) b s t text → ChunkRest is_signed size n b s t text
data_more is_signed size n b s t text some is =
    let next = is.6 in
    let end = next.4 in (
      suc end.6.0,
      (
        some,
        (is.0, is.1, is.2, is.3, is.4, is.5, (next.0, next.1, next.2, next.3, (end.0, end.1, end.2, end.3, end.4, end.5, end.6.1))),
      ),
    )

pub chunk_some : (is_signed : Bool) (size n : ℕ) → IsSome (ChunkRest is_signed size n)
chunk_some is_signed size zero = chunk_none is_signed size
chunk_some is_signed size (suc n) =
    let piece = replicate (suc n) 0 in
    let is = next_some is_signed size (suc n) in
    let text = (piece ++ crlf) ++ is.0 in (
      text,
      (
        piece ++ is.1.0,
        is.1.1,
        is.1.2,
        data_more is_signed size (suc n) (piece ++ is.1.0) is.1.1 is.1.2 text (omega arith)
            (piece, is.1.0, is.0, length-replicate {A = ℕ} (suc n) 0, refl, refl, is.1.3),
      ),
    )

-- ## Lengths

digits_all : (xs : List ℕ) → AreDigits xs → All (λ b. IsTrue (is_length_digit b)) xs
unfolding AreDigits
digits_all [] are = All-nil (λ b. IsTrue (is_length_digit b))
digits_all (x ∷ xs) are = All-cons (λ b. IsTrue (is_length_digit b)) x xs are.0 (digits_all xs are.1)

other_ends : (bytes : List ℕ) → BeginsOther bytes → EndsRun is_length_digit bytes
other_ends [] other = absurd other
other_ends (byte ∷ bytes) other = other

same_length : (m n : ℕ) (rest more : List ℕ) → m ≤ 4294967295 → n ≤ 4294967295 → EndsRun is_length_digit rest → EndsRun is_length_digit more
    → length_text m ++ rest ≡ length_text n ++ more → (m ≡ n) × (rest ≡ more)
same_length m n rest more small low ends stops same =
    let found = same_run is_length_digit (length_text m) (length_text n) rest more (digits_all (length_text m) (text_digits m))
    (digits_all (length_text n) (text_digits n)) ends stops same in
    (sym (text_value m (omega (arith, small))) ∙ ap (digits_value_after 16 0) found.0 ∙ text_value n (omega (arith, low)), found.1)

-- what stands behind a length begins with no digit
abbrev AllOther : (ℕ → TextSays) → Type 0
AllOther Rest = (m : ℕ) (b : List ℕ) (s : List (List ℕ)) (t : List Trailer) (text : List ℕ) → Rest m b s t text → BeginsOther text

follows_length : (most n : ℕ) (Rest : ℕ → TextSays) (rest : List ℕ) → most ≤ 4294967295 → n ≤ most → BeginsOther rest → AllOther Rest
    → FollowsFront (LengthThen most Rest) (Rest n) [] [] (length_text n) rest
follows_length most n Rest rest bound low other all_other = record {
  goes_on = λ b all_b s all_s t text all is_b is_s is part. (n, text, low, is, says_same (Rest n) b all_b s all_s t text text is_b is_s refl part);
  comes_so = λ all_b all_s t text all is same whole.
      let found = same_length whole.0 n whole.1 text (omega (arith, bound, whole.2)) (omega (arith, bound, low))
      (other_ends whole.1 (all_other whole.0 all_b all_s t whole.1 whole.4)) (same_first is_length_digit text rest same (other_ends rest other))
      (sym whole.3 ∙ is) in (
        all_b,
        all_s,
        refl,
        refl,
        subst (λ (k : ℕ). Rest k all_b all_s t text) found.0 (says_same (Rest whole.0) all_b all_b all_s all_s t whole.1 text refl refl (sym found.1) whole.4),
      );
}

ended_other : (most n : ℕ) (rest all : List ℕ) → n ≤ most → all ≡ length_text n ++ rest → BeginsOther rest → Led (IsEndedLength most) all
ended_other most n [] all low is other = absurd other
ended_other most n (byte ∷ rest) all low is other =
    (length_text n ++ byte ∷ [], rest, (n, byte, low, other, refl), is ∙ sym (append_assoc (length_text n) (byte ∷ []) rest))

stops_length : (most : ℕ) (Rest : ℕ → TextSays) (bytes : List ℕ) (fault : PartFault) → ((m : ℕ) → IsSome (Rest m)) → AllOther Rest
    → StopsWhere (IsLength most) (Led (IsEndedLength most)) bytes fault → StopsWhere (Said (LengthThen most Rest)) (Said (LengthThen most Rest)) bytes fault
stops_length most Rest bytes fault some all_other told =
    stops_first (IsLength most) (Led (IsEndedLength most)) (Said (LengthThen most Rest)) (Said (LengthThen most Rest)) bytes fault
    (λ word is.
    let more = some is.0 in
    (more.0, (more.1.0, more.1.1, more.1.2, (is.0, more.0, is.1, ap (λ (w : List ℕ). w ++ more.0) is.2, more.1.3))))
    (λ all same is.
    let length_ = is.3 in
    ended_other most length_.0 length_.1 all length_.2 length_.3 (all_other length_.0 is.0 is.1 is.2 length_.1 length_.4))
    told

-- ## Behind a length

head_other : (is_signed : Bool) (Rest : TextSays) (b : List ℕ) (s : List (List ℕ)) (t : List Trailer) (text : List ℕ) → HeadEndThen is_signed Rest b s t text → BeginsOther text
head_other is_signed Rest b s t text is = by is.0 is.5
  where
    by : (signature : Option (List ℕ)) → text ≡ (signature_text signature ++ crlf) ++ is.2 → BeginsOther text
    by None same = subst BeginsOther (sym same) refl
    by (Some signature) same = subst BeginsOther (sym same) refl

head_begins : (is_signed : Bool) (Rest : TextSays) (b : List ℕ) (s : List (List ℕ)) (t : List Trailer) (text : List ℕ) → HeadEndThen is_signed Rest b s t text
    → begins_with 59 text ≡ is_signed
head_begins is_signed Rest b s t text is = by is_signed is.0 is.3 is.5
  where
    by : (sg : Bool) (signature : Option (List ℕ)) → IsSignedBy sg signature → text ≡ (signature_text signature ++ crlf) ++ is.2 → begins_with 59 text ≡ sg
    by false None signed same = ap (begins_with 59) same
    by false (Some signature) signed same = absurd signed
    by true None signed same = absurd signed
    by true (Some signature) signed same = ap (begins_with 59) same

follows_signed : (is_signed : Bool) (n : ℕ) (rest : List ℕ) → begins_with 59 rest ≡ is_signed
    → FollowsFront (FirstRest n) (HeadEndThen is_signed (ChunkRest is_signed n n)) [] [] [] rest
follows_signed is_signed n rest shows =
    follows_as (FirstRest n) (HeadEndThen is_signed (ChunkRest is_signed n n)) rest
    (λ b s t text is. (is_signed, is))
    (λ b s t text same is.
    subst (λ (sg : Bool). HeadEndThen sg (ChunkRest sg n n) b s t text)
    (sym (head_begins is.0 (ChunkRest is.0 n n) b s t text is.1) ∙ same_begin 59 text rest same ∙ shows) is.1)

same_end : (is_signed : Bool) (one two : Option (List ℕ)) (rest more : List ℕ) → IsSignedBy is_signed one → IsSignedBy is_signed two
    → (signature_text one ++ crlf) ++ rest ≡ (signature_text two ++ crlf) ++ more → (one ≡ two) × (rest ≡ more)
same_end false None None rest more first second same = (refl, (same_word crlf crlf rest more refl same).1)
same_end false None (Some two) rest more first second same = absurd second
same_end false (Some one) two rest more first second same = absurd first
same_end true None two rest more first second same = absurd first
same_end true (Some one) None rest more first second same = absurd second
same_end true (Some one) (Some two) rest more first second same =
    let mark = codes ";chunk-signature=" in
    let found = same_word ((mark ++ one) ++ crlf) ((mark ++ two) ++ crlf) rest more
    (omega (
      arith,
      signature_long one first,
      signature_long two second,
      length-append (mark ++ one) crlf,
      length-append (mark ++ two) crlf,
      length-append mark one,
      length-append mark two,
    )) same in (
      ap (λ (x : List ℕ). Some x) (append_cancel_left mark one two (append_cancel_right (mark ++ one) (mark ++ two) crlf found.0)),
      found.1,
    )

follows_head : (is_signed : Bool) (Rest : TextSays) (signature : Option (List ℕ)) (rest : List ℕ) → IsSignedBy is_signed signature
    → FollowsFront (HeadEndThen is_signed Rest) Rest [] (one_or_none signature) (signature_text signature ++ crlf) rest
follows_head is_signed Rest signature rest signed = record {
  goes_on = λ b all_b s all_s t text all is_b is_s is part.
      (signature, s, text, signed, is_s, is, says_same Rest b all_b s s t text text is_b refl refl part);
  comes_so = λ all_b all_s t text all is same whole.
      let found = same_end is_signed whole.0 signature whole.2 text whole.3 signed (sym whole.5 ∙ is) in (
        all_b,
        whole.1,
        refl,
        whole.4 ∙ ap (λ (o : Option (List ℕ)). one_or_none o ++ whole.1) found.0,
        says_same Rest all_b all_b whole.1 whole.1 t whole.2 text refl refl (sym found.1) whole.6,
      );
}

stops_head : (is_signed : Bool) (Rest : TextSays) (bytes : List ℕ) (fault : PartFault) → IsSome Rest → StopsWhere (IsHeadEnd is_signed) (Led (IsHeadEnd is_signed)) bytes fault
    → StopsWhere (Said (HeadEndThen is_signed Rest)) (Said (HeadEndThen is_signed Rest)) bytes fault
stops_head is_signed Rest bytes fault more told =
    stops_first (IsHeadEnd is_signed) (Led (IsHeadEnd is_signed)) (Said (HeadEndThen is_signed Rest)) (Said (HeadEndThen is_signed Rest)) bytes fault
    (λ word is. (
      more.0,
      (
        more.1.0,
        one_or_none is.0 ++ more.1.1,
        more.1.2,
        (is.0, more.1.1, more.0, is.1, refl, ap (λ (w : List ℕ). w ++ more.0) is.2, more.1.3),
      ),
    ))
    (λ all same is.
    let end = is.3 in
    (signature_text end.0 ++ crlf, end.2, (end.0, end.3, refl), end.5))
    told

-- ## Data

follows_next : (is_signed : Bool) (size n : ℕ) (rest : List ℕ) → 0 < n
    → FollowsFront (ChunkRest is_signed size n) (DataThen n (NextRest is_signed size n)) [] [] [] rest
follows_next is_signed size n rest some =
    follows_as (ChunkRest is_signed size n) (DataThen n (NextRest is_signed size n)) rest
    (λ b s t text is. data_more is_signed size n b s t text some is)
    (λ b s t text same is. by is.0 b s t text is.1)
  where
    by : (k : ℕ) (b : List ℕ) (s : List (List ℕ)) (t : List Trailer) (text : List ℕ) → ChunksThen is_signed size k n b s t text
        → DataThen n (NextRest is_signed size n) b s t text
    by zero b s t text is = absurd (omega (arith, is.0, some))
    by (suc k) b s t text is =
        let data_ = is.1 in
        let next = data_.6 in
        let end = next.4 in (
          data_.0,
          data_.1,
          data_.2,
          data_.3,
          data_.4,
          data_.5,
          (next.0, next.1, next.2, next.3, (end.0, end.1, end.2, end.3, end.4, end.5, (k, end.6))),
        )

follows_tail : (is_signed : Bool) (size n : ℕ) (rest : List ℕ) → n ≤ 0 → FollowsFront (ChunkRest is_signed size n) (TailSays is_signed) [] [] [] rest
follows_tail is_signed size n rest none =
    follows_as (ChunkRest is_signed size n) (TailSays is_signed) rest
    (λ b s t text is. (0, (omega (arith, none), is)))
    (λ b s t text same is. by is.0 b s t text is.1)
  where
    by : (k : ℕ) (b : List ℕ) (s : List (List ℕ)) (t : List Trailer) (text : List ℕ) → ChunksThen is_signed size k n b s t text → TailSays is_signed b s t text
    by zero b s t text is = is.1
    by (suc k) b s t text is = absurd (omega (arith, is.0, none))

follows_data : (n : ℕ) (Rest : TextSays) (piece rest : List ℕ) → length piece ≡ n → FollowsFront (DataThen n Rest) Rest piece [] (piece ++ crlf) rest
follows_data n Rest piece rest long = record {
  goes_on = λ b all_b s all_s t text all is_b is_s is part. (piece, b, text, long, is_b, is, says_same Rest b b s all_s t text text refl is_s refl part);
  comes_so = λ all_b all_s t text all is same whole.
      let found = same_word (whole.0 ++ crlf) (piece ++ crlf) whole.2 text
      (omega (arith, whole.3, long, length-append whole.0 crlf, length-append piece crlf)) (sym whole.5 ∙ is) in (
        whole.1,
        all_s,
        whole.4 ∙ ap (λ (p : List ℕ). p ++ whole.1) (append_cancel_right whole.0 piece crlf found.0),
        refl,
        says_same Rest whole.1 whole.1 all_s all_s t whole.2 text refl refl (sym found.1) whole.6,
      );
}

stops_data : (n : ℕ) (Rest : TextSays) (bytes : List ℕ) (fault : PartFault) → IsSome Rest → StopsWhere (IsData n) (Led (IsData n)) bytes fault
    → StopsWhere (Said (DataThen n Rest)) (Said (DataThen n Rest)) bytes fault
stops_data n Rest bytes fault more told =
    stops_first (IsData n) (Led (IsData n)) (Said (DataThen n Rest)) (Said (DataThen n Rest)) bytes fault
    (λ word is. (
      more.0,
      (
        is.0 ++ more.1.0,
        more.1.1,
        more.1.2,
        (is.0, more.1.0, more.0, is.1, refl, ap (λ (w : List ℕ). w ++ more.0) is.2, more.1.3),
      ),
    ))
    (λ all same is.
    let data_ = is.3 in
    (data_.0 ++ crlf, data_.2, (data_.0, data_.3, refl), data_.5))
    told

-- ## How far reading has come

-- the first bytes say this data and these signatures, and the rest is at hand
pub record At (Rest : TextSays) (bytes body : List ℕ) (signatures : List (List ℕ)) (rest : List ℕ) : Type 0 where
  pub front : List ℕ
  pub parted : bytes ≡ front ++ rest
  pub follows : FollowsFront IsTextOf Rest body signatures front rest

at_next : (Mid Rest : TextSays) (bytes body more all_body : List ℕ) (signatures others all_signatures : List (List ℕ)) (next before rest : List ℕ)
    → all_body ≡ body ++ more → all_signatures ≡ signatures ++ others → before ≡ next ++ rest → FollowsFront Mid Rest more others next rest
    → At Mid bytes body signatures before → At Rest bytes all_body all_signatures rest
at_next Mid Rest bytes body more all_body signatures others all_signatures next before rest bodies texts parted follows at = record {
  front = at.front ++ next;
  parted = at.parted ∙ ap (λ (t : List ℕ). at.front ++ t) parted ∙ sym (append_assoc at.front next rest);
  follows = follows_both IsTextOf Mid Rest body more all_body signatures others all_signatures at.front next (at.front ++ next) before rest bodies texts refl parted
      at.follows follows;
}

pub at_stops : (Rest : TextSays) (bytes body : List ℕ) (signatures : List (List ℕ)) (rest : List ℕ) (fault : PartFault) → At Rest bytes body signatures rest
    → StopsWhere (Said Rest) (Said Rest) rest fault → StopsWhere (Said IsTextOf) (Said IsTextOf) bytes fault
at_stops Rest bytes body signatures rest fault at told = stops_rest IsTextOf Rest body signatures at.front bytes rest fault at.parted at.follows told

at_same : (Rest : TextSays) (bytes body other : List ℕ) (signatures texts : List (List ℕ)) (rest : List ℕ) → other ≡ body → texts ≡ signatures
    → At Rest bytes body signatures rest → At Rest bytes other texts rest
at_same Rest bytes body other signatures texts rest bodies same at =
    subst (λ (b : List ℕ). At Rest bytes b texts rest) (sym bodies) (subst (λ (s : List (List ℕ)). At Rest bytes body s rest) (sym same) at)

at_whole : (bytes : List ℕ) → At WholeSays bytes [] [] bytes
at_whole bytes = record { front = []; parted = refl; follows = follows_whole bytes }

-- ## The first length

first_some : (n : ℕ) → IsSome (FirstRest n)
first_some n =
    let is = head_some false (ChunkRest false n n) (chunk_some false n n) in
    (is.0, (is.1.0, is.1.1, is.1.2, (false, is.1.3)))

first_other : AllOther FirstRest
first_other n b s t text is = head_other is.0 (ChunkRest is.0 n n) b s t text is.1

pub first_length_stops : (bytes : List ℕ) (fault : PartFault) → StopsWhere (IsLength 4294967295) (Led (IsEndedLength 4294967295)) bytes fault
    → StopsWhere (Said IsTextOf) (Said IsTextOf) bytes fault
first_length_stops bytes fault told =
    at_stops WholeSays bytes [] [] bytes fault (at_whole bytes) (stops_length 4294967295 FirstRest bytes fault first_some first_other told)

at_first : (is_signed : Bool) (n : ℕ) (bytes rest : List ℕ) → n ≤ 4294967295 → bytes ≡ length_text n ++ rest → BeginsOther rest → is_signed ≡ begins_with 59 rest
    → At (HeadEndThen is_signed (ChunkRest is_signed n n)) bytes [] [] rest
at_first is_signed n bytes rest low parted other shows =
    at_next (FirstRest n) (HeadEndThen is_signed (ChunkRest is_signed n n)) bytes [] [] [] [] [] [] [] rest rest refl refl refl
    (follows_signed is_signed n rest (sym shows))
    (at_next WholeSays (FirstRest n) bytes [] [] [] [] [] [] (length_text n) bytes rest refl refl parted
    (follows_length 4294967295 n FirstRest rest (omega arith) low other first_other) (at_whole bytes))

pub first_head_stops : (is_signed : Bool) (n : ℕ) (bytes rest : List ℕ) (fault : PartFault) → n ≤ 4294967295 → bytes ≡ length_text n ++ rest → BeginsOther rest
    → is_signed ≡ begins_with 59 rest → StopsWhere (IsHeadEnd is_signed) (Led (IsHeadEnd is_signed)) rest fault → StopsWhere (Said IsTextOf) (Said IsTextOf) bytes fault
first_head_stops is_signed n bytes rest fault low parted other shows told =
    at_stops (HeadEndThen is_signed (ChunkRest is_signed n n)) bytes [] [] rest fault (at_first is_signed n bytes rest low parted other shows)
    (stops_head is_signed (ChunkRest is_signed n n) rest fault (chunk_some is_signed n n) told)

-- ## Behind the line before a chunk

pub record Reached (bytes : List ℕ) (size n : ℕ) (is_signed : Bool) (body : List ℕ) (signatures : List (List ℕ)) (rest : List ℕ) : Type 0 where
  pub low : n ≤ size
  pub bound : size ≤ 4294967295
  pub at : At (ChunkRest is_signed size n) bytes body signatures rest

pub reached_first : (size : ℕ) (is_signed now_signed : Bool) (signature : Option (List ℕ)) (bytes behind rest body : List ℕ) (before texts : List (List ℕ)) → size ≤ 4294967295
    → bytes ≡ length_text size ++ behind → BeginsOther behind → is_signed ≡ begins_with 59 behind → behind ≡ (signature_text signature ++ crlf) ++ rest
    → IsSignedBy is_signed signature → before ≡ [] → texts ≡ before ++ one_or_none signature → now_signed ≡ is_signed → body ≡ []
    → Reached bytes size size now_signed body texts rest
reached_first size is_signed now_signed signature bytes behind rest body before texts bound parted other shows ended signed empty told same none =
    subst (λ (sg : Bool). Reached bytes size size sg body texts rest) (sym same) (record {
      low = omega arith;
      bound = bound;
      at = at_same (ChunkRest is_signed size size) bytes [] body (one_or_none signature) texts rest none (told ∙ ap (λ (b : List (List ℕ)). b ++ one_or_none signature) empty)
          (at_next (HeadEndThen is_signed (ChunkRest is_signed size size)) (ChunkRest is_signed size size) bytes [] [] [] [] (one_or_none signature) (one_or_none signature)
          (signature_text signature ++ crlf) behind rest refl refl ended (follows_head is_signed (ChunkRest is_signed size size) signature rest signed)
          (at_first is_signed size bytes behind bound parted other shows));
    })

at_data : (bytes : List ℕ) (size n : ℕ) (is_signed : Bool) (body : List ℕ) (signatures : List (List ℕ)) (rest : List ℕ)
    → Reached bytes size n is_signed body signatures rest → 0 < n → At (DataThen n (NextRest is_signed size n)) bytes body signatures rest
at_data bytes size n is_signed body signatures rest reached some =
    at_next (ChunkRest is_signed size n) (DataThen n (NextRest is_signed size n)) bytes body [] body signatures [] signatures [] rest rest (sym (append-nil body)) (sym (append-nil signatures)) refl
    (follows_next is_signed size n rest some) reached.at

pub data_stops : (bytes : List ℕ) (size n : ℕ) (is_signed : Bool) (body : List ℕ) (signatures : List (List ℕ)) (rest : List ℕ) (fault : PartFault)
    → Reached bytes size n is_signed body signatures rest → 0 < n → StopsWhere (IsData n) (Led (IsData n)) rest fault → StopsWhere (Said IsTextOf) (Said IsTextOf) bytes fault
data_stops bytes size n is_signed body signatures rest fault reached some told =
    at_stops (DataThen n (NextRest is_signed size n)) bytes body signatures rest fault (at_data bytes size n is_signed body signatures rest reached some)
    (stops_data n (NextRest is_signed size n) rest fault (next_some is_signed size n) told)

at_next_length : (bytes : List ℕ) (size n : ℕ) (is_signed : Bool) (body now : List ℕ) (signatures : List (List ℕ)) (piece rest behind : List ℕ)
    → Reached bytes size n is_signed body signatures rest → 0 < n → length piece ≡ n → rest ≡ (piece ++ crlf) ++ behind → now ≡ body ++ piece
    → At (NextRest is_signed size n) bytes now signatures behind
at_next_length bytes size n is_signed body now signatures piece rest behind reached some long read grown =
    at_next (DataThen n (NextRest is_signed size n)) (NextRest is_signed size n) bytes body piece now signatures [] signatures (piece ++ crlf) rest behind grown
    (sym (append-nil signatures)) read (follows_data n (NextRest is_signed size n) piece behind long) (at_data bytes size n is_signed body signatures rest reached some)

next_other : (is_signed : Bool) (size : ℕ) → AllOther (λ m. HeadEndThen is_signed (ChunkRest is_signed size m))
next_other is_signed size m b s t text is = head_other is_signed (ChunkRest is_signed size m) b s t text is

pub length_stops : (bytes : List ℕ) (size n : ℕ) (is_signed : Bool) (body now : List ℕ) (signatures : List (List ℕ)) (piece rest behind : List ℕ) (fault : PartFault)
    → Reached bytes size n is_signed body signatures rest → 0 < n → length piece ≡ n → rest ≡ (piece ++ crlf) ++ behind → now ≡ body ++ piece
    → StopsWhere (IsLength (most_after size n)) (Led (IsEndedLength (most_after size n))) behind fault → StopsWhere (Said IsTextOf) (Said IsTextOf) bytes fault
length_stops bytes size n is_signed body now signatures piece rest behind fault reached some long read grown told =
    at_stops (NextRest is_signed size n) bytes now signatures behind fault (at_next_length bytes size n is_signed body now signatures piece rest behind reached some long read grown)
    (stops_length (most_after size n) (λ m. HeadEndThen is_signed (ChunkRest is_signed size m)) behind fault
    (λ m. head_some is_signed (ChunkRest is_signed size m) (chunk_some is_signed size m)) (next_other is_signed size) told)

at_head : (bytes : List ℕ) (size n m : ℕ) (is_signed : Bool) (body now : List ℕ) (signatures : List (List ℕ)) (piece rest behind after : List ℕ)
    → Reached bytes size n is_signed body signatures rest → 0 < n → length piece ≡ n → rest ≡ (piece ++ crlf) ++ behind → now ≡ body ++ piece
    → m ≤ most_after size n → behind ≡ length_text m ++ after → BeginsOther after → At (HeadEndThen is_signed (ChunkRest is_signed size m)) bytes now signatures after
at_head bytes size n m is_signed body now signatures piece rest behind after reached some long read grown low parted other =
    at_next (NextRest is_signed size n) (HeadEndThen is_signed (ChunkRest is_signed size m)) bytes now [] now signatures [] signatures (length_text m) behind after (sym (append-nil now))
    (sym (append-nil signatures)) parted
    (follows_length (most_after size n) m (λ k. HeadEndThen is_signed (ChunkRest is_signed size k)) after (omega (arith, after_bound size n, reached.bound)) low other
    (next_other is_signed size))
    (at_next_length bytes size n is_signed body now signatures piece rest behind reached some long read grown)

pub head_stops : (bytes : List ℕ) (size n m : ℕ) (is_signed : Bool) (body now : List ℕ) (signatures : List (List ℕ)) (piece rest behind after : List ℕ) (fault : PartFault)
    → Reached bytes size n is_signed body signatures rest → 0 < n → length piece ≡ n → rest ≡ (piece ++ crlf) ++ behind → now ≡ body ++ piece
    → m ≤ most_after size n → behind ≡ length_text m ++ after → BeginsOther after → StopsWhere (IsHeadEnd is_signed) (Led (IsHeadEnd is_signed)) after fault
    → StopsWhere (Said IsTextOf) (Said IsTextOf) bytes fault
head_stops bytes size n m is_signed body now signatures piece rest behind after fault reached some long read grown low parted other told =
    at_stops (HeadEndThen is_signed (ChunkRest is_signed size m)) bytes now signatures after fault
    (at_head bytes size n m is_signed body now signatures piece rest behind after reached some long read grown low parted other)
    (stops_head is_signed (ChunkRest is_signed size m) after fault (chunk_some is_signed size m) told)

pub reached_next : (bytes : List ℕ) (size n m : ℕ) (is_signed now_signed : Bool) (body now : List ℕ) (signatures next : List (List ℕ)) (signature : Option (List ℕ))
    (piece rest behind after last : List ℕ) → Reached bytes size n is_signed body signatures rest → 0 < n → length piece ≡ n → rest ≡ (piece ++ crlf) ++ behind
    → now ≡ body ++ piece → m ≤ most_after size n → behind ≡ length_text m ++ after → BeginsOther after → after ≡ (signature_text signature ++ crlf) ++ last
    → IsSignedBy is_signed signature → next ≡ signatures ++ one_or_none signature → now_signed ≡ is_signed → Reached bytes size m now_signed now next last
reached_next bytes size n m is_signed now_signed body now signatures next signature piece rest behind after last reached some long read grown low parted other ended signed told same =
    subst (λ (sg : Bool). Reached bytes size m sg now next last) (sym same) (record {
      low = omega (arith, low, after_bound size n);
      bound = reached.bound;
      at = at_next (HeadEndThen is_signed (ChunkRest is_signed size m)) (ChunkRest is_signed size m) bytes now [] now signatures (one_or_none signature) next
          (signature_text signature ++ crlf) after last (sym (append-nil now)) told ended (follows_head is_signed (ChunkRest is_signed size m) signature last signed)
          (at_head bytes size n m is_signed body now signatures piece rest behind after reached some long read grown low parted other);
    })

-- behind the line of the empty chunk
pub reached_end : (bytes : List ℕ) (size n : ℕ) (is_signed : Bool) (body : List ℕ) (signatures : List (List ℕ)) (rest : List ℕ)
    → Reached bytes size n is_signed body signatures rest → n ≤ 0
    → (front : List ℕ) × (bytes ≡ front ++ rest) × FollowsFront IsTextOf (TailSays is_signed) body signatures front rest
reached_end bytes size n is_signed body signatures rest reached none =
    let at = at_next (ChunkRest is_signed size n) (TailSays is_signed) bytes body [] body signatures [] signatures [] rest rest (sym (append-nil body)) (sym (append-nil signatures)) refl
    (follows_tail is_signed size n rest none) reached.at in
    (at.front, at.parted, at.follows)
