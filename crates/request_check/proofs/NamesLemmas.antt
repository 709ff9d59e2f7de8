-- The names of signed headers as one text, and signatures as texts.
use Rattle.std.proofs.Common.{◌≡◌, ℕ, ◌+◌, ◌*◌, ◌/◌, ◌%◌, ◌<◌, ◌==◌, Bool, true, false, ◌&&◌, ◌||◌, List, [], ◌∷◌, ◌++◌, length, IsUtf8, refl, sym, ap, ◌∙◌, true≢false, arith, ne_eqb, not}
use Rattle.std.specs.Prelude.{codes, nat_lt}
use Rattle.std.specs.List.{AllByRecursion, join_with_byte, list_all, slice_split}
use Rattle.std.proofs.lemmas.Bool.{agree_below_at, and_parts, eqb-true, or_right, false≢true}
use Rattle.std.proofs.lemmas.List.Elements.{All-cons, All-nil}
use Rattle.std.proofs.lemmas.Str.{IsUtf8-append, IsUtf8-from_ascii, IsUtf8-nil}
use Rattle.std.proofs.lemmas.Str.Ascii.{IsAscii-cons, IsAscii-nil}
use Rattle.std.proofs.lemmas.List.Folds.{list_any-append, list_any_none}
use Rattle.std.proofs.lemmas.List.Splits.{slice_split_none}
use Rattle.std.specs.Ordering.{is_eq}
use Rattle.std.specs.Cmp.{tied_itself}
use Rattle.std.proofs.lemmas.Cmp.{nat_list_cmp_total}
use Rattle.sha2.specs.Sha256.{sha256}
use Rattle.hex.specs.Hex.{encode_lower, lower_digits}
use Rattle.hex.proofs.HexLemmas.{length-encode_with}
use Rattle.http_header.specs.Token.{token_test}
use Rattle.eventstream.proofs.LinkLemmas.{length-mac}
use Rattle.mac_core.specs.Mac.{mac, mac_of_block}
use Rattle.smithy_core.specs.Civil.{civil_of, stamp}
use Rattle.smithy_core.specs.CivilText.{date_of, stamp_of, two_digits}
use Rattle.smithy_core.specs.Moment.{Instant}
use Rattle.smithy_core.specs.declared.civil_text.Civil.{Civil}
use Rattle.sigv4.specs.Body.{payload_text}
use Rattle.sigv4.specs.Refusal.{is_name}
use Rattle.sigv4.specs.Request.{Case}
use Rattle.sigv4.specs.Signature.{is_lower_digit, is_signature, signature}
use Rattle.sigv4.specs.Signed.{signature_of}
use Rattle.sigv4.specs.Trim.{is_word, trim_all}
use Rattle.sigv4.specs.declared.body.SignableBody.{SignableBody}
use Rattle.sigv4.specs.declared.body.SignableBody.TheVariants.{Bytes, UnsignedPayload, Precomputed, StreamingUnsignedPayloadTrailer, StreamingSignedPayloadTrailer}
use Rattle.sigv4.proofs.DigitLemmas.{digit_low, encoded_digits}
use Rattle.sigv4.proofs.JoinLemmas.{AllLack, Lacks, split_joined}
use Rattle.sigv4.proofs.SetLemmas.{is_among, order}
use Rattle.sigv4.proofs.SignatureLemmas.{sha256-bytes}
use Rattle.request_check.specs.Recomputation.{IsTrimmedBody}
use Rattle.request_check.specs.SealTexts.{has_space}
use Rattle.request_check.proofs.ReadingLemmas.{digit_is_no_space}

-- ---- header names have neither `;` nor a space

module _ (c : ℕ) (no_mark : token_test c ≡ false) where
  token_lacks : (text : List ℕ) → list_all token_test text ≡ true → Lacks c text
  token_lacks [] all = All-nil (λ b. (b == c) ≡ false)
  token_lacks (b ∷ text) all =
      let parts = and_parts (token_test b) (list_all token_test text) all in
      All-cons (λ x. (x == c) ≡ false) b text (differs (b == c) refl parts.0) (token_lacks text parts.1)
    where
      differs : (is : Bool) → (b == c) ≡ is → token_test b ≡ true → (b == c) ≡ false
      differs false e token = e
      differs true e token = absurd (true≢false (sym token ∙ (ap token_test (eqb-true b c e) ∙ no_mark)))

  pub name_lacks : (name : List ℕ) → is_name name ≡ true → Lacks c name
  name_lacks name is =
      let parts = and_parts (nat_lt 0 (length name) && list_all token_test name) _ is in
      token_lacks name (and_parts (nat_lt 0 (length name)) (list_all token_test name) parts.0).1

-- what holds of each text that is among these holds of all
pub all_among : (P : List ℕ → Type 0) (texts : List (List ℕ)) → ((text : List ℕ) → is_among text texts ≡ true → P text) → AllByRecursion P texts
all_among P [] each = tt
all_among P (text ∷ texts) each = (
  each text (ap (λ o. is_eq o || is_among text texts) (tied_itself nat_list_cmp_total text)),
  all_among P texts (λ other is. each other (or_right (is_eq (order other text)) (is_among other texts) is)),
)

-- names that are joined are cut into these again
pub names_cut : (names : List (List ℕ)) (name : List ℕ) → is_among name names ≡ true → AllLack 59 names → slice_split (λ b. b == 59) (join_with_byte 59 names) ≡ names
names_cut [] name is lack = absurd (false≢true is)
names_cut (first ∷ names) name is lack = split_joined 59 first names lack

-- names without spaces have none when they are joined
pub joined_whole : (names : List (List ℕ)) → AllByRecursion (Lacks 32) names → has_space (join_with_byte 59 names) ≡ false
unfolding has_space
joined_whole [] lack = refl
joined_whole (first ∷ []) lack = list_any_none (λ b. b == 32) first lack.0
joined_whole (first ∷ next ∷ names) lack =
    list_any-append (λ b. b == 32) first (59 ∷ join_with_byte 59 (next ∷ names)) ∙ rw (list_any_none (λ b. b == 32) first lack.0) (joined_whole (next ∷ names) lack.1)

-- ---- a signature is 64 digits

code_signature : (key text : List ℕ) → is_signature (encode_lower (mac key text)) ≡ true
unfolding is_signature mac mac_of_block
code_signature key text =
    let long : length (encode_lower (mac key text)) ≡ 64 = length-encode_with lower_digits (mac key text) ∙ ap (λ (n : ℕ). 2 * n) (length-mac key text) in
    rw (long, encoded_digits (mac key text) (sha256-bytes _)) refl

pub signature_digits : (c : Case) → is_signature (signature_of c) ≡ true
unfolding signature_of signature
signature_digits c = code_signature _ _

-- and so it is UTF-8
digits_utf8 : (text : List ℕ) → list_all is_lower_digit text ≡ true → IsUtf8 text
digits_utf8 [] digits = IsUtf8-nil
digits_utf8 (b ∷ text) digits =
    let parts = and_parts (is_lower_digit b) (list_all is_lower_digit text) digits in
    let low : b < 128 = digit_low b parts.0 in
    IsUtf8-append (b ∷ []) text (IsUtf8-from_ascii (b ∷ []) (IsAscii-cons b [] low IsAscii-nil)) (digits_utf8 text parts.1)

pub signature_utf8 : (c : Case) → IsUtf8 (signature_of c)
unfolding signature_of signature mac mac_of_block
signature_utf8 c = digits_utf8 _ (encoded_digits _ (sha256-bytes _))

-- ---- texts without spaces are trimmed

pub unspaced : (b : ℕ) (text : List ℕ) → Lacks 32 (b ∷ text) → trim_all (b ∷ text) ≡ b ∷ text
unfolding trim_all
unspaced b text lacks =
    let word : is_word (b ∷ text) ≡ true = ap not (ne_eqb (length (b ∷ text)) 0 (omega arith)) in
    rw (slice_split_none (λ x. x == 32) (b ∷ text) lacks, word) refl

lacking_trimmed : (text : List ℕ) → Lacks 32 text → trim_all text ≡ text
unfolding trim_all
lacking_trimmed [] lacks = refl
lacking_trimmed (b ∷ text) lacks = unspaced b text lacks

digits_lack_space : (text : List ℕ) → list_all is_lower_digit text ≡ true → Lacks 32 text
digits_lack_space [] digits = All-nil (λ b. (b == 32) ≡ false)
digits_lack_space (b ∷ text) digits =
    let parts = and_parts (is_lower_digit b) (list_all is_lower_digit text) digits in
    All-cons (λ x. (x == 32) ≡ false) b text (digit_is_no_space b parts.0) (digits_lack_space text parts.1)

-- a payload's text is trimmed, unless it is a digest that is given
pub payload_trimmed : (body : SignableBody) → IsTrimmedBody body → trim_all (payload_text body) ≡ payload_text body
unfolding trim_all
payload_trimmed (Bytes bytes) trimmed =
    lacking_trimmed (encode_lower (sha256 bytes.now)) (digits_lack_space (encode_lower (sha256 bytes.now)) (encoded_digits (sha256 bytes.now) (sha256-bytes bytes.now)))
payload_trimmed UnsignedPayload trimmed = refl
payload_trimmed (Precomputed text) trimmed = trimmed
payload_trimmed StreamingUnsignedPayloadTrailer trimmed = refl
payload_trimmed StreamingSignedPayloadTrailer trimmed = refl

-- ---- a stamp is trimmed

digit_lacks : (n : ℕ) → ((48 + n % 10) == 32) ≡ false
digit_lacks n = agree_below_at (λ d. (48 + d) == 32) (λ _. false) 10 (n % 10) refl (omega arith)

digits_lack : (n : ℕ) (rest : List ℕ) → Lacks 32 rest → Lacks 32 (two_digits n ++ rest)
digits_lack n rest more =
    All-cons (λ x. (x == 32) ≡ false) (48 + n / 10 % 10) ((48 + n % 10) ∷ rest) (digit_lacks (n / 10)) (All-cons (λ x. (x == 32) ≡ false) (48 + n % 10) rest (digit_lacks n) more)

letter_lacks : (b : ℕ) (rest : List ℕ) → (b == 32) ≡ false → Lacks 32 rest → Lacks 32 (b ∷ rest)
letter_lacks b rest differs more = All-cons (λ x. (x == 32) ≡ false) b rest differs more

stamp_lacks : (c : Civil) → Lacks 32 (stamp_of c)
unfolding stamp_of date_of
stamp_lacks c =
    let from_second = two_digits c.second ++ codes "Z" in
    let from_minute = two_digits c.minute ++ from_second in
    let from_hour = two_digits c.hour ++ from_minute in
    let from_letter = 84 ∷ from_hour in
    let from_day = two_digits c.day ++ from_letter in
    let from_month = two_digits c.month ++ from_day in
    let from_year = two_digits c.year ++ from_month in
    let times = digits_lack c.hour from_minute (digits_lack c.minute from_second (digits_lack c.second (codes "Z") (letter_lacks 90 [] refl (All-nil (λ x. (x == 32) ≡ false))))) in
    digits_lack (c.year / 100) from_year (digits_lack c.year from_month (digits_lack c.month from_day (digits_lack c.day from_letter (letter_lacks 84 from_hour refl times))))

trimmed_whole : (c : Civil) → trim_all (stamp_of c) ≡ stamp_of c
unfolding trim_all stamp_of date_of
trimmed_whole c = rw (slice_split_none (λ x. x == 32) (stamp_of c) (stamp_lacks c)) refl

pub stamp_trimmed : (t : Instant) → trim_all (stamp t) ≡ stamp t
unfolding stamp
stamp_trimmed t = trimmed_whole (civil_of t)
