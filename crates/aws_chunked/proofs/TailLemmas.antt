-- The lines of the tail, one behind another.
use Rattle.std.proofs.Common.{◌≡◌, ℕ, ◌<◌, Bool, true, false, List, [], ◌∷◌, ◌++◌, length, length-append, All, IsTrue, Option, Some, None, refl, ap, sym, subst, ◌∙◌, arith, append_assoc, append-nil}
use Rattle.std.specs.Prelude.{codes}
use Rattle.std.specs.List.{AllByRecursion, flat_map}
use Rattle.std.proofs.lemmas.Bool.{eqb-true, false≢true}
use Rattle.std.proofs.lemmas.Grind.{flat_map-append}
use Rattle.std.proofs.lemmas.List.Elements.{All-head, All-nil, All-weaker}
use Rattle.std.proofs.lemmas.Str.{IsUtf8-from_ascii, IsUtf8-nil}
use Rattle.std.proofs.lemmas.Str.Ascii.{IsAscii-from_all}
use Rattle.http_header.specs.Token.{is_token_byte, is_value_byte}
use Rattle.http_header.proofs.TokenLemmas.{AllPass-from_test}
use Rattle.aws_chunked.specs.Body.{Trailer}
use Rattle.sigv4.specs.Signature.{is_lower_digit}
use Rattle.aws_chunked.specs.Decoded.{CanGoOn, IsSignature, IsTrailer, TakesSignature}
use Rattle.aws_chunked.specs.Reading.{Led, RefusesNext, StopsWhere}
use Rattle.aws_chunked.specs.Rests.{FollowsFront, IsSignedBy, IsTail, Said, TextSays, TailSays, begins_with, first_byte, one_or_none}
use Rattle.aws_chunked.specs.Signing.{has_signature}
use Rattle.aws_chunked.specs.TailRests.{IsLine, IsSplit, is_name_byte, last_trailer}
use Rattle.aws_chunked.specs.Text.{crlf, last_line, trailer_line}
use Rattle.aws_chunked.specs.declared.decode.fault.PartFault.{PartFault}
use Rattle.aws_chunked.specs.declared.decode.fault.PartFault.TheVariants.{Bad}
use Rattle.aws_chunked.proofs.FollowLemmas.{follows_as, follows_both, stops_rest}
use Rattle.aws_chunked.proofs.LineLemmas.{a_name, cr_ends, name_bytes, same_line}
use Rattle.aws_chunked.proofs.PieceLemmas.{takes_given, takes_is}
use Rattle.aws_chunked.proofs.PlaceLemmas.{stops_first}
use Rattle.aws_chunked.proofs.RunLemmas.{same_begin, same_word}
use Rattle.sigv4.proofs.DigitLemmas.{digit_low}
use Rattle.aws_chunked.proofs.SignatureLemmas.{signature_digits, some_signature, some_signed}

-- ## The signature of trailers is one

signature_value : (b : ℕ) → is_lower_digit b ≡ true → is_value_byte b ≡ true
signature_value b is = grind arith

signature_name : All (λ byte. IsTrue (is_token_byte byte)) (codes "x-amz-trailer-signature")
unfolding is_token_byte
signature_name = AllPass-from_test is_token_byte (codes "x-amz-trailer-signature") refl

signature_trailer : (signature : List ℕ) → IsSignature signature → IsTrailer (codes "x-amz-trailer-signature", signature)
signature_trailer signature is = (
  ((omega arith, signature_name), omega arith),
  refl,
  IsUtf8-from_ascii signature (IsAscii-from_all signature (All-weaker (λ b. IsTrue (is_lower_digit b)) (λ b. b < 128) digit_low signature (signature_digits signature is))),
  All-weaker (λ b. IsTrue (is_lower_digit b)) (λ b. IsTrue (is_value_byte b)) signature_value signature (signature_digits signature is),
)

-- ## Lines

pub all_front : (trailers more : List Trailer) → AllByRecursion IsTrailer (trailers ++ more) → AllByRecursion IsTrailer trailers
all_front [] more are = tt
all_front (trailer ∷ trailers) more are = (are.0, all_front trailers more are.1)

all_both : (trailers more : List Trailer) → AllByRecursion IsTrailer trailers → AllByRecursion IsTrailer more → AllByRecursion IsTrailer (trailers ++ more)
all_both [] more are each = each
all_both (trailer ∷ trailers) more are each = (are.0, all_both trailers more are.1 each)

last_is : (is_signed : Bool) (trailers : List Trailer) (last : Option (List ℕ)) → IsSignedBy (has_signature is_signed trailers) last → AllByRecursion IsTrailer (last_trailer last)
last_is is_signed trailers None signed = tt
last_is is_signed trailers (Some signature) signed = (signature_trailer signature (sound (has_signature is_signed trailers) signed), tt)
  where
    sound : (b : Bool) → IsSignedBy b (Some signature) → IsSignature signature
    sound true is = is
    sound false is = absurd is

last_read : (last : Option (List ℕ)) → flat_map trailer_line (last_trailer last) ≡ last_line last
last_read None = refl
last_read (Some signature) = append-nil (trailer_line (codes "x-amz-trailer-signature", signature))

-- lines were read, and more may stand behind them, before the empty line
pub LinesSay : Bool → List Trailer → TextSays
LinesSay is_signed lines body signatures trailers text =
    (more : List Trailer) × (last : Option (List ℕ)) × (body ≡ []) × AllByRecursion IsTrailer more × IsSplit is_signed (lines ++ more) trailers last
    × (signatures ≡ one_or_none last) × (text ≡ flat_map trailer_line more ++ crlf)

lines_text : (trailers : List Trailer) (last : Option (List ℕ)) → flat_map trailer_line (trailers ++ last_trailer last) ++ crlf ≡ flat_map trailer_line trailers ++ last_line last ++ crlf
lines_text trailers last =
    ap (λ (t : List ℕ). t ++ crlf) (flat_map-append trailer_line trailers (last_trailer last) ∙ ap (λ (t : List ℕ). flat_map trailer_line trailers ++ t) (last_read last))

tail_lines : (is_signed : Bool) (b : List ℕ) (s : List (List ℕ)) (t : List Trailer) (text : List ℕ) → TailSays is_signed b s t text → LinesSay is_signed [] b s t text
unfolding LinesSay
tail_lines is_signed b s t text is =
    let tail = is.1 in
    let last = tail.0 in
    let signed = takes_is (has_signature is_signed t) s last [] tail.2 in (
      t ++ last_trailer last,
      last,
      is.0,
      all_both t (last_trailer last) tail.1 (last_is is_signed t last signed.0),
      (refl, signed.0),
      signed.1 ∙ append-nil (one_or_none last),
      tail.3 ∙ sym (lines_text t last),
    )

lines_tail : (is_signed : Bool) (b : List ℕ) (s : List (List ℕ)) (t : List Trailer) (text : List ℕ) → LinesSay is_signed [] b s t text → TailSays is_signed b s t text
unfolding LinesSay
lines_tail is_signed b s t text is =
    let last = is.1 in
    let split = is.4 in (
      is.2,
      (
        last,
        all_front t (last_trailer last) (subst (λ (ts : List Trailer). AllByRecursion IsTrailer ts) split.0 is.3),
        subst (λ (x : List (List ℕ)). TakesSignature (has_signature is_signed t) x last []) (append-nil (one_or_none last) ∙ sym is.5)
            (takes_given (has_signature is_signed t) last [] split.1),
        is.6 ∙ ap (λ (ts : List Trailer). flat_map trailer_line ts ++ crlf) split.0 ∙ lines_text t last,
      ),
    )

follows_lines_none : (is_signed : Bool) (rest : List ℕ) → FollowsFront (TailSays is_signed) (LinesSay is_signed []) [] [] [] rest
follows_lines_none is_signed rest =
    follows_as (TailSays is_signed) (LinesSay is_signed []) rest (lines_tail is_signed) (λ b s t text same is. tail_lines is_signed b s t text is)

-- a line begins with no CR
line_begins : (line : Trailer) (more : List ℕ) → IsTrailer line → IsTrue (begins_with 13 (trailer_line line ++ more)) → ⊥
line_begins line more is begins = by line.0 is.0.0.0 (name_bytes line.0 is.0.0.1 is.1) begins
  where
    by : (name : List ℕ) → 0 < length name → All (λ byte. IsTrue (is_name_byte byte)) name
        → IsTrue (begins_with 13 ((((name ++ codes ":") ++ line.1) ++ crlf) ++ more)) → ⊥
    by [] some all begins_ = omega (arith, some)
    by (b ∷ name) some all begins_ =
        false≢true (sym cr_ends ∙ ap is_name_byte (sym (eqb-true b 13 begins_)) ∙ All-head (λ byte. IsTrue (is_name_byte byte)) b name all)

-- texts of lines that begin with a CR are the empty line
no_more : (is_signed : Bool) (lines more : List Trailer) (text : List ℕ) → AllByRecursion IsTrailer more → text ≡ flat_map trailer_line more ++ crlf
    → IsTrue (begins_with 13 text) → more ≡ []
no_more is_signed lines [] text are is begins = refl
no_more is_signed lines (line ∷ more) text are is begins =
    absurd (line_begins line (flat_map trailer_line more ++ crlf) are.0
    (subst (λ (t : List ℕ). IsTrue (begins_with 13 t)) (is ∙ append_assoc (trailer_line line) (flat_map trailer_line more) crlf) begins))

follows_line : (is_signed : Bool) (lines : List Trailer) (line : Trailer) (rest : List ℕ) → IsTrailer line
    → FollowsFront (LinesSay is_signed lines) (LinesSay is_signed (lines ++ line ∷ [])) [] [] (trailer_line line) rest
unfolding LinesSay
follows_line is_signed lines line rest is_line = record {
  goes_on = λ b all_b s all_s t text all is_b is_s is part. (
    line ∷ part.0,
    part.1,
    is_b ∙ part.2,
    (is_line, part.3),
    (sym (append_assoc lines (line ∷ []) part.0) ∙ part.4.0, part.4.1),
    is_s ∙ part.5,
    is ∙ ap (λ (x : List ℕ). trailer_line line ++ x) part.6 ∙ sym (append_assoc (trailer_line line) (flat_map trailer_line part.0) crlf),
  );
  comes_so = λ all_b all_s t text all is same whole. (
    all_b,
    all_s,
    refl,
    refl,
    by whole.0 whole.1 all_b all_s t text whole.2 whole.3 whole.4 whole.5 (sym is ∙ whole.6),
  );
}
  where
    by : (more : List Trailer) (last : Option (List ℕ)) (b : List ℕ) (s : List (List ℕ)) (t : List Trailer) (text : List ℕ) → b ≡ [] → AllByRecursion IsTrailer more
        → IsSplit is_signed (lines ++ more) t last → s ≡ one_or_none last → trailer_line line ++ text ≡ flat_map trailer_line more ++ crlf
        → LinesSay is_signed (lines ++ line ∷ []) b s t text
    by [] last b s t text none are split sigs same =
        absurd (line_begins line text is_line (subst (λ (x : List ℕ). IsTrue (begins_with 13 x)) (sym same) refl))
    by (other ∷ more) last b s t text none are split sigs same =
        let found = same_line line other text (flat_map trailer_line more ++ crlf) is_line are.0
        (same ∙ append_assoc (trailer_line other) (flat_map trailer_line more) crlf) in (
          more,
          last,
          none,
          are.1,
          (append_assoc lines (line ∷ []) more ∙ ap (λ (l : Trailer). lines ++ l ∷ more) found.0 ∙ split.0, split.1),
          sigs,
          found.1,
        )

follows_lines : (is_signed : Bool) (before lines : List Trailer) (rest : List ℕ) → AllByRecursion IsTrailer lines
    → FollowsFront (LinesSay is_signed before) (LinesSay is_signed (before ++ lines)) [] [] (flat_map trailer_line lines) rest
follows_lines is_signed before [] rest are =
    subst (λ (ls : List Trailer). FollowsFront (LinesSay is_signed before) (LinesSay is_signed ls) [] [] [] rest) (sym (append-nil before))
    (follows_as (LinesSay is_signed before) (LinesSay is_signed before) rest (λ b s t text is. is) (λ b s t text same is. is))
follows_lines is_signed before (line ∷ lines) rest are =
    subst (λ (ls : List Trailer). FollowsFront (LinesSay is_signed before) (LinesSay is_signed ls) [] [] (trailer_line line ++ flat_map trailer_line lines) rest)
    (append_assoc before (line ∷ []) lines)
    (follows_both (LinesSay is_signed before) (LinesSay is_signed (before ++ line ∷ [])) (LinesSay is_signed ((before ++ line ∷ []) ++ lines)) [] [] [] [] [] []
    (trailer_line line) (flat_map trailer_line lines) (trailer_line line ++ flat_map trailer_line lines) (flat_map trailer_line lines ++ rest) rest refl refl refl refl
    (follows_line is_signed before line (flat_map trailer_line lines ++ rest) are.0) (follows_lines is_signed (before ++ line ∷ []) lines rest are.1))

-- behind lines
follows_tail_lines : (is_signed : Bool) (lines : List Trailer) (rest : List ℕ) → AllByRecursion IsTrailer lines
    → FollowsFront (TailSays is_signed) (LinesSay is_signed lines) [] [] (flat_map trailer_line lines) rest
follows_tail_lines is_signed lines rest are =
    follows_both (TailSays is_signed) (LinesSay is_signed []) (LinesSay is_signed lines) [] [] [] [] [] [] [] (flat_map trailer_line lines) (flat_map trailer_line lines)
    (flat_map trailer_line lines ++ rest) rest refl refl refl refl (follows_lines_none is_signed (flat_map trailer_line lines ++ rest)) (follows_lines is_signed [] lines rest are)

pub lines_stop : (is_signed : Bool) (lines : List Trailer) (bytes rest : List ℕ) (fault : PartFault) → AllByRecursion IsTrailer lines
    → bytes ≡ flat_map trailer_line lines ++ rest → StopsWhere (Said (LinesSay is_signed lines)) (Said (LinesSay is_signed lines)) rest fault
    → StopsWhere (Said (TailSays is_signed)) (Said (TailSays is_signed)) bytes fault
lines_stop is_signed lines bytes rest fault are parted told =
    stops_rest (TailSays is_signed) (LinesSay is_signed lines) [] [] (flat_map trailer_line lines) bytes rest fault parted (follows_tail_lines is_signed lines rest are) told

-- ## More lines may always stand behind some

signs_more : (is_signed : Bool) (lines : List Trailer) (line : Trailer) → IsSignedBy (has_signature is_signed (lines ++ line ∷ [])) (some_signature is_signed)
signs_more is_signed [] line = some_signed is_signed
signs_more is_signed (first ∷ lines) line = some_signed is_signed

more_lines : (is_signed : Bool) (lines : List Trailer) (line : Trailer) → IsTrailer line → CanGoOn (Said (LinesSay is_signed lines)) (trailer_line line)
unfolding LinesSay
more_lines is_signed lines line is =
    let last = some_signature is_signed in
    let signed = signs_more is_signed lines line in
    let behind = flat_map trailer_line (last_trailer last) ++ crlf in (
      behind,
      (
        [],
        one_or_none last,
        lines ++ line ∷ [],
        (
          line ∷ last_trailer last,
          last,
          refl,
          (is, last_is is_signed (lines ++ line ∷ []) last signed),
          (sym (append_assoc lines (line ∷ []) (last_trailer last)), signed),
          refl,
          sym (append_assoc (trailer_line line) (flat_map trailer_line (last_trailer last)) crlf),
        ),
      ),
    )

begins_lines : (is_signed : Bool) (lines : List Trailer) → CanGoOn (Said (LinesSay is_signed lines)) []
begins_lines is_signed lines =
    let line : Trailer = (97 ∷ [], []) in
    let more = more_lines is_signed lines line (a_name.0, a_name.1, IsUtf8-nil, All-nil (λ byte. IsTrue (is_value_byte byte))) in
    (trailer_line line ++ more.0, more.1)

-- a line that stops
pub line_stops : (is_signed : Bool) (lines : List Trailer) (rest : List ℕ) (fault : PartFault) → begins_with 13 rest ≡ false → StopsWhere IsLine (Led IsLine) rest fault
    → StopsWhere (Said (LinesSay is_signed lines)) (Said (LinesSay is_signed lines)) rest fault
unfolding LinesSay
line_stops is_signed lines rest fault other told =
    stops_first IsLine (Led IsLine) (Said (LinesSay is_signed lines)) (Said (LinesSay is_signed lines)) rest fault
    (λ word is. subst (CanGoOn (Said (LinesSay is_signed lines))) (sym is.2) (more_lines is_signed lines is.0 is.1))
    (λ all same is. by all same is.3.0 is.3.3 is.3.6)
    told
  where
    by : (all : List ℕ) → first_byte all ≡ first_byte rest → (more : List Trailer) → AllByRecursion IsTrailer more → all ≡ flat_map trailer_line more ++ crlf
        → Led IsLine all
    by all same [] are is = absurd (false≢true (sym other ∙ sym (same_begin 13 all rest same) ∙ ap (begins_with 13) is))
    by all same (line ∷ more) are is =
        (trailer_line line, flat_map trailer_line more ++ crlf, (line, are.0, refl), is ∙ append_assoc (trailer_line line) (flat_map trailer_line more) crlf)

-- ## The end

-- the lines are no trailers and their signature
pub split_stops : (is_signed : Bool) (lines : List Trailer) (rest : List ℕ) (fault : PartFault) → IsTrue (begins_with 13 rest)
    → ((trailers : List Trailer) (last : Option (List ℕ)) → IsSplit is_signed lines trailers last → ⊥) → fault ≡ Bad (length rest)
    → StopsWhere (Said (LinesSay is_signed lines)) (Said (LinesSay is_signed lines)) rest fault
unfolding LinesSay
split_stops is_signed lines rest fault begins none told =
    subst (StopsWhere (Said (LinesSay is_signed lines)) (Said (LinesSay is_signed lines)) rest) (sym told) ([], rest, refl, refl, begins_lines is_signed lines, refuses rest begins)
  where
    not : (text : List ℕ) → IsTrue (begins_with 13 text) → Said (LinesSay is_signed lines) text → ⊥
    not text cr is =
        let says = is.3 in
        let empty = no_more is_signed lines says.0 text says.3 says.6 cr in
        none is.2 says.1 (sym (append-nil lines) ∙ ap (λ (m : List Trailer). lines ++ m) (sym empty) ∙ says.4.0, says.4.1)

    refuses : (back : List ℕ) → IsTrue (begins_with 13 back) → RefusesNext (Said (LinesSay is_signed lines)) [] back
    refuses [] cr = absurd (false≢true cr)
    refuses (b ∷ back) cr = λ begins_. not (b ∷ begins_.0) cr begins_.1

-- no end of the line
pub end_stops : (is_signed : Bool) (lines trailers : List Trailer) (last : Option (List ℕ)) (rest : List ℕ) (fault : PartFault) → IsTrue (begins_with 13 rest)
    → IsSplit is_signed lines trailers last → StopsWhere (λ word. word ≡ crlf) (Led (λ word. word ≡ crlf)) rest fault
    → StopsWhere (Said (LinesSay is_signed lines)) (Said (LinesSay is_signed lines)) rest fault
unfolding LinesSay
end_stops is_signed lines trailers last rest fault cr split told =
    stops_first (λ word. word ≡ crlf) (Led (λ word. word ≡ crlf)) (Said (LinesSay is_signed lines)) (Said (LinesSay is_signed lines)) rest fault
    (λ word is.
    ([], ([], one_or_none last, trailers, ([], last, refl, tt, (append-nil lines ∙ split.0, split.1), refl, append-nil word ∙ is))))
    (λ all same is.
    let says = is.3 in
    let empty = no_more is_signed lines says.0 all says.3 says.6 (same_begin 13 all rest same ∙ cr) in
    (crlf, [], refl, says.6 ∙ ap (λ (m : List Trailer). flat_map trailer_line m ++ crlf) empty))
    told

-- something behind the end
pub more_stops : (is_signed : Bool) (lines trailers : List Trailer) (last : Option (List ℕ)) (rest final : List ℕ) (fault : PartFault)
    → IsSplit is_signed lines trailers last → rest ≡ crlf ++ final → (length final ≡ 0 → ⊥) → fault ≡ Bad (length final)
    → StopsWhere (Said (LinesSay is_signed lines)) (Said (LinesSay is_signed lines)) rest fault
unfolding LinesSay
more_stops is_signed lines trailers last rest final fault split ended some told =
    subst (StopsWhere (Said (LinesSay is_signed lines)) (Said (LinesSay is_signed lines)) rest) (sym told) (
      crlf,
      final,
      ended,
      refl,
      ([], ([], one_or_none last, trailers, ([], last, refl, tt, (append-nil lines ∙ split.0, split.1), refl, refl))),
      refuses final some,
    )
  where
    refuses : (back : List ℕ) → (length back ≡ 0 → ⊥) → RefusesNext (Said (LinesSay is_signed lines)) crlf back
    refuses [] some_ = absurd (some_ refl)
    refuses (b ∷ back) some_ = λ begins.
        let says = begins.1.3 in
        let empty = no_more is_signed lines says.0 ((crlf ++ b ∷ []) ++ begins.0) says.3 says.6 refl in
        omega (
          arith,
          ap length (says.6 ∙ ap (λ (m : List Trailer). flat_map trailer_line m ++ crlf) empty),
          length-append (crlf ++ b ∷ []) begins.0,
        )

-- ## No other tail

same_last : (one two : List ℕ) (first second : List Trailer) → first ++ last_trailer (Some one) ≡ second ++ last_trailer (Some two) → (first ≡ second) × (one ≡ two)
same_last one two first second same =
    let found = same_word first second (last_trailer (Some one)) (last_trailer (Some two))
    (omega (arith, ap length same, length-append first (last_trailer (Some one)), length-append second (last_trailer (Some two)))) same in
    (found.0, ap (λ (l : List Trailer). value l) found.1)
  where
    value : List Trailer → List ℕ
    value [] = []
    value (trailer ∷ trailers) = trailer.1

unsigned : (b : Bool) → IsSignedBy b None → (trailers : List Trailer) (x : List ℕ) → IsSignedBy (has_signature b trailers) (Some x) → ⊥
unsigned true none trailers x some = none
unsigned false none [] x some = some
unsigned false none (trailer ∷ trailers) x some = some

same_split : (is_signed : Bool) (lines first second : List Trailer) (one two : Option (List ℕ)) → IsSplit is_signed lines first one → IsSplit is_signed lines second two
    → (first ≡ second) × (one ≡ two)
same_split is_signed lines first second None None is other =
    (sym (append-nil first) ∙ sym is.0 ∙ other.0 ∙ append-nil second, refl)
same_split is_signed lines first second (Some one) (Some two) is other =
    let found = same_last one two first second (sym is.0 ∙ other.0) in
    (found.0, ap (λ (x : List ℕ). Some x) found.1)
same_split is_signed lines [] second None (Some two) is other = absurd (omega (arith, ap length (sym is.0 ∙ other.0), length-append second (last_trailer (Some two))))
same_split is_signed lines (t ∷ first) second None (Some two) is other = absurd (unsigned is_signed is.1 second two other.1)
same_split is_signed lines first [] (Some one) None is other = absurd (omega (arith, ap length (sym other.0 ∙ is.0), length-append first (last_trailer (Some one))))
same_split is_signed lines first (t ∷ second) (Some one) None is other = absurd (unsigned is_signed other.1 first one is.1)

pub tail_whole : (is_signed : Bool) (lines trailers : List Trailer) (last : Option (List ℕ)) (bytes rest final : List ℕ) → AllByRecursion IsTrailer lines
    → bytes ≡ flat_map trailer_line lines ++ rest → IsSplit is_signed lines trailers last → rest ≡ crlf ++ final → final ≡ []
    → IsTail is_signed (one_or_none last) trailers bytes
    × ((s : List (List ℕ)) (t : List Trailer) → IsTail is_signed s t bytes → (s ≡ one_or_none last) × (t ≡ trailers))
unfolding LinesSay
tail_whole is_signed lines trailers last bytes rest final are parted split ended none =
    let whole : rest ≡ crlf = ended ∙ ap (λ (f : List ℕ). crlf ++ f) none in
    let follows = follows_tail_lines is_signed lines rest are in
    let is = follows.goes_on [] [] (one_or_none last) (one_or_none last) trailers rest bytes refl refl parted
    ([], last, refl, tt, (append-nil lines ∙ split.0, split.1), refl, whole) in (
      is.1,
      λ s t other.
          let says = (follows.comes_so [] s t rest bytes parted refl (refl, other)) in
          let down = says.4 in
          let empty = no_more is_signed lines down.0 rest down.3 down.6 (subst (λ (x : List ℕ). IsTrue (begins_with 13 x)) (sym whole) refl) in
          let found = same_split is_signed lines t trailers down.1 last
          (sym (append-nil lines) ∙ ap (λ (m : List Trailer). lines ++ m) (sym empty) ∙ down.4.0, down.4.1) split in
          (says.3 ∙ down.5 ∙ ap one_or_none found.1, found.0),
    )
