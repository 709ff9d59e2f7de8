-- What is announced of trailers doesn't depend on the data: every checksum is as long, and can be sent.
use Rattle.std.proofs.Common.{◌≡◌, ◌<◌, ◌≤◌, ◌+◌, ◌*◌, ◌/◌, ◌%◌, ℕ, zero, suc, Bool, true, List, [], ◌∷◌, ◌++◌, length, map, replicate, codes, Option, Some, None, refl, ap, sym, ◌∙◌, length-append, arith}
use Rattle.std.specs.Prelude.{slice_index, if◌then◌else◌, sum}
use Rattle.std.specs.Int.{to_be_bytes, w32}
use Rattle.std.specs.List.{join_with_byte, list_all}
use Rattle.std.specs.Option.{option_or}
use Rattle.std.proofs.lemmas.Bool.Decides.{nat_tests}
use Rattle.std.proofs.lemmas.List.{length-replicate}
use Rattle.std.proofs.lemmas.List.Folds.{list_all-append}
use Rattle.base64.specs.Engines.{standard}
use Rattle.base64.specs.GeneralPurpose.{encode_of}
use Rattle.base64.specs.Rfc4648.{encode_symbols, padding_len}
use Rattle.base64.proofs.RoundTrip.{length-encode_symbols}
use Rattle.base64.proofs.Tables.{is_alphabet_symbol}
use Rattle.http_header.specs.Token.{is_value_byte}
use Rattle.sha2.specs.Sha256.{digest_bytes, sha256}
use Rattle.sha2.proofs.Facts256.{length-sha256}
use Rattle.mac_core.specs.Crc.{remainder}
use Rattle.smithy_core.specs.Moment.{Instant}
use Rattle.smithy_core.specs.TextPairs.{inserted}
use Rattle.smithy_http.specs.Target.{Target}
use Rattle.sigv4.specs.Refusal.{is_value, unfit_header, unfit_headers}
use Rattle.sigv4.specs.declared.error.SigningError.{SigningError}
use Rattle.aws_chunked.specs.Announcement.{announced_headers, announced_payload, declared_lengths, trailer_length, unannounced, unless_enabled, unless_fitting, unless_same, with_trailer_names}
use Rattle.aws_chunked.specs.Body.{Trailer, lines_length}
use Rattle.aws_chunked.specs.Options.{Options, counted, declared_length, encoded_length}
use Rattle.aws_chunked.specs.Signing.{has_signature}
use Rattle.aws_chunked.specs.Text.{trailer_line}
use Rattle.awsign_run.specs.Chosen.{SignsFor}
use Rattle.awsign_run.specs.Signing.{asked_case}
use Rattle.awsign_words.specs.Words.{SignWanted}
use Rattle.awsign_words.specs.declared.words.Checksum.{Checksum}
use Rattle.awsign_words.specs.declared.words.Checksum.TheVariants.{Crc32, Sha256}
use Rattle.awsign_chunk.specs.Sent.{IsFitToSend, announced_trailers, announced_wanted, checksum_trailer, checksum_trailers, sent_case, sent_checksum, sent_options, sent_trailers, signs_chunks}

-- ## Base64

-- each is below 256
AreBytes : List ℕ → Type 0
AreBytes [] = Unit {0}
AreBytes (byte ∷ bytes) = (byte < 256) × AreBytes bytes

bytes_both : (xs ys : List ℕ) → AreBytes xs → AreBytes ys → AreBytes (xs ++ ys)
unfolding AreBytes
bytes_both [] ys first second = second
bytes_both (x ∷ xs) ys first second = (first.0, bytes_both xs ys first.1 second)

word_bytes : (n : ℕ) → AreBytes (to_be_bytes w32 n)
unfolding AreBytes
word_bytes n = (omega arith, (omega arith, (omega arith, (omega arith, tt))))

words_bytes : (h : List ℕ) (n : ℕ) → AreBytes (digest_bytes h n)
unfolding AreBytes digest_bytes
words_bytes h zero = tt
words_bytes h (suc n) = bytes_both (digest_bytes h n) (to_be_bytes w32 (slice_index h n)) (words_bytes h n) (word_bytes (slice_index h n))

digest_of_bytes : (m : List ℕ) → AreBytes (sha256 m)
unfolding sha256
digest_of_bytes m = words_bytes _ 8

byte_fits : (b : ℕ) → 32 ≤ b → b ≤ 126 → is_value_byte b ≡ true
byte_fits b low high = grind (arith, nat_tests)

-- a symbol may stand in a header's value
symbol_fits : (i : ℕ) → i < 64 → is_value_byte (slice_index standard.encode_table i) ≡ true
symbol_fits i below =
    let printed = is_alphabet_symbol standard.encode_table 61 i refl below in byte_fits (slice_index standard.encode_table i) printed.0 printed.1

symbols_fit : (m : List ℕ) → AreBytes m → list_all is_value_byte (encode_symbols standard.encode_table m) ≡ true
unfolding encode_symbols AreBytes
symbols_fit [] bytes = refl
symbols_fit (a ∷ []) bytes = rw (symbol_fits (a / 4) (omega (arith, bytes.0)), symbol_fits (a % 4 * 16) (omega arith)) refl
symbols_fit (a ∷ b ∷ []) bytes =
    rw (
      symbol_fits (a / 4) (omega (arith, bytes.0)),
      symbol_fits (a % 4 * 16 + b / 16) (omega (arith, bytes.1.0)),
      symbol_fits (b % 16 * 4) (omega arith),
    )
    refl
symbols_fit (a ∷ b ∷ c ∷ rest) bytes =
    rw (
      symbol_fits (a / 4) (omega (arith, bytes.0)),
      symbol_fits (a % 4 * 16 + b / 16) (omega (arith, bytes.1.0)),
      symbol_fits (b % 16 * 4 + c / 64) (omega (arith, bytes.1.1.0)),
      symbol_fits (c % 64) (omega arith),
    )
    (symbols_fit rest bytes.1.1.1)

padding_fits : (n : ℕ) → list_all is_value_byte (replicate n 61) ≡ true
padding_fits zero = refl
padding_fits (suc n) = padding_fits n

-- base64 of bytes may be a header's value
encoded_fits : (m : List ℕ) → AreBytes m → is_value (encode_of standard m) ≡ true
encoded_fits m bytes =
    list_all-append is_value_byte (encode_symbols standard.encode_table m) (replicate (padding_len (length m)) 61)
    ∙ rw (symbols_fit m bytes, padding_fits (padding_len (length m))) refl

-- how long base64 is
encoded_long : (m : List ℕ) → length (encode_of standard m) ≡ (4 * length m + 2) / 3 + padding_len (length m)
encoded_long m =
    let pad : List ℕ = replicate (padding_len (length m)) 61 in
    let long : length pad ≡ padding_len (length m) = length-replicate {A = ℕ} (padding_len (length m)) 61 in
    length-append (encode_symbols standard.encode_table m) pad
    ∙ ap (λ (n : ℕ). n + length pad) (length-encode_symbols standard.encode_table m) ∙ ap (λ (n : ℕ). (4 * length m + 2) / 3 + n) long

-- base64 of as many bytes is as long
encoded_as_long : (m k : List ℕ) → length m ≡ length k → length (encode_of standard m) ≡ length (encode_of standard k)
encoded_as_long m k same = encoded_long m ∙ ap (λ (n : ℕ). (4 * n + 2) / 3 + padding_len n) same ∙ sym (encoded_long k)

-- ## One trailer for another

-- two trailers of one name with values of one length, which both may be values of headers
record AreAlike (x y : Trailer) : Type 0 where
  name : x.0 ≡ y.0
  long : length x.1 ≡ length y.1
  first : is_value x.1 ≡ true
  second : is_value y.1 ≡ true

module _ (x y : Trailer) (alike : AreAlike x y) where
  one_length : trailer_length x ≡ trailer_length y
  one_length = ap (λ (name : List ℕ). counted (length name + length x.1 + 1)) alike.name ∙ ap (λ (n : ℕ). counted (length y.0 + n + 1)) alike.long

  one_line : length (trailer_line x) ≡ length (trailer_line y)
  one_line = line x ∙ ap (λ (name : List ℕ). length name + length x.1 + 3) alike.name ∙ ap (λ (n : ℕ). length y.0 + n + 3) alike.long ∙ sym (line y)
    where
      line : (z : Trailer) → length (trailer_line z) ≡ length z.0 + length z.1 + 3
      line z = simp length-append (omega arith)

  one_fit : (place : ℕ) → unfit_header place x ≡ unfit_header place y
  one_fit place =
      rw (alike.name, alike.first, alike.second) refl

  lengths_alike : (ts : List Trailer) → map trailer_length (ts ++ x ∷ []) ≡ map trailer_length (ts ++ y ∷ [])
  lengths_alike [] = ap (λ (n : ℕ). n ∷ []) one_length
  lengths_alike (t ∷ ts) = ap (λ (ns : List ℕ). trailer_length t ∷ ns) (lengths_alike ts)

  each_line_alike : (ts : List Trailer)
      → map (λ (t : Trailer). length (trailer_line t)) (ts ++ x ∷ []) ≡ map (λ (t : Trailer). length (trailer_line t)) (ts ++ y ∷ [])
  each_line_alike [] = ap (λ (n : ℕ). n ∷ []) one_line
  each_line_alike (t ∷ ts) = ap (λ (ns : List ℕ). length (trailer_line t) ∷ ns) (each_line_alike ts)

  lines_alike : (ts : List Trailer) → lines_length (ts ++ x ∷ []) ≡ lines_length (ts ++ y ∷ [])
  lines_alike ts = ap sum (each_line_alike ts)

  names_alike : (ts : List Trailer) → map (λ (t : Trailer). t.0) (ts ++ x ∷ []) ≡ map (λ (t : Trailer). t.0) (ts ++ y ∷ [])
  names_alike [] = ap (λ (name : List ℕ). name ∷ []) alike.name
  names_alike (t ∷ ts) = ap (λ (ns : List (List ℕ)). t.0 ∷ ns) (names_alike ts)

  unfit_alike : (place : ℕ) (ts : List Trailer) → unfit_headers place (ts ++ x ∷ []) ≡ unfit_headers place (ts ++ y ∷ [])
  unfit_alike place [] = ap (λ (error : Option SigningError). option_or error None) (one_fit place)
  unfit_alike place (t ∷ ts) = ap (λ (error : Option SigningError). option_or (unfit_header place t) error) (unfit_alike (place + 1) ts)

  signed_alike : (is_signed : Bool) (ts : List Trailer) → has_signature is_signed (ts ++ x ∷ []) ≡ has_signature is_signed (ts ++ y ∷ [])
  signed_alike is_signed [] = refl
  signed_alike is_signed (t ∷ ts) = refl

  named_alike : (headers : List Trailer) (ts : List Trailer) → with_trailer_names (ts ++ x ∷ []) headers ≡ with_trailer_names (ts ++ y ∷ []) headers
  named_alike headers [] =
      ap (λ (names : List (List ℕ)). inserted headers (codes "x-amz-trailer") (join_with_byte 44 names)) (names_alike [])
  named_alike headers (t ∷ ts) =
      ap (λ (names : List (List ℕ)). inserted headers (codes "x-amz-trailer") (join_with_byte 44 names)) (names_alike (t ∷ ts))

-- two lists of trailers of which the same is announced
pub record AnnouncesSame (xs ys : List Trailer) : Type 0 where
  pub lengths : (is_signed : Bool) → declared_lengths is_signed xs ≡ declared_lengths is_signed ys
  pub payload : (is_signed : Bool) → announced_payload is_signed xs ≡ announced_payload is_signed ys
  pub headers : (options : Options) (before : List Trailer) → announced_headers options xs before ≡ announced_headers options ys before
  pub unannounced : (options : Options) → unannounced options xs ≡ unannounced options ys
  pub unfit : unfit_headers 1 xs ≡ unfit_headers 1 ys

alike_same : (x y : Trailer) (ts : List Trailer) → AreAlike x y → AnnouncesSame (ts ++ x ∷ []) (ts ++ y ∷ [])
unfolding announced_headers unannounced
alike_same x y ts alike = record {
  lengths = λ is_signed.
      ap (λ (ns : List ℕ). ns ++ (if has_signature is_signed (ts ++ x ∷ []) then 88 ∷ [] else [])) (lengths_alike x y alike ts)
      ∙ ap (λ (b : Bool). map trailer_length (ts ++ y ∷ []) ++ (if b then 88 ∷ [] else [])) (signed_alike x y alike is_signed ts);
  payload = λ is_signed.
      ap (λ (b : Bool). if b then codes "STREAMING-AWS4-HMAC-SHA256-PAYLOAD-TRAILER" else if is_signed then codes "STREAMING-AWS4-HMAC-SHA256-PAYLOAD" else codes "STREAMING-UNSIGNED-PAYLOAD-TRAILER")
      (signed_alike x y alike is_signed ts);
  headers = λ options before. named_alike x y alike _ ts;
  unannounced = λ options.
      ap (λ (n : ℕ). option_or (unless_enabled options.disabled) (option_or (unless_same (counted n) (counted (declared_length options.trailer_lengths))) (unless_fitting (encoded_length options))))
      (ap (λ (n : ℕ). n + (if has_signature options.is_signed (ts ++ x ∷ []) then 90 else 0)) (lines_alike x y alike ts)
      ∙ ap (λ (b : Bool). lines_length (ts ++ y ∷ []) + (if b then 90 else 0)) (signed_alike x y alike options.is_signed ts));
  unfit = unfit_alike x y alike 1 ts;
}

checksums_alike : (checksum : Checksum) (bytes : List ℕ) → AreAlike (checksum_trailer checksum bytes) (checksum_trailer checksum [])
checksums_alike Crc32 bytes = record {
  name = refl;
  long = encoded_as_long (to_be_bytes w32 (remainder bytes)) (to_be_bytes w32 (remainder [])) refl;
  first = encoded_fits (to_be_bytes w32 (remainder bytes)) (word_bytes (remainder bytes));
  second = encoded_fits (to_be_bytes w32 (remainder [])) (word_bytes (remainder []));
}
checksums_alike Sha256 bytes = record {
  name = refl;
  long = encoded_as_long (sha256 bytes) (sha256 []) (length-sha256 bytes ∙ sym (length-sha256 []));
  first = encoded_fits (sha256 bytes) (digest_of_bytes bytes);
  second = encoded_fits (sha256 []) (digest_of_bytes []);
}

checksum_same : (ts : List Trailer) (checksum : Option Checksum) (bytes : List ℕ) → AnnouncesSame (ts ++ checksum_trailers checksum bytes) (ts ++ checksum_trailers checksum [])
checksum_same ts None bytes = record { lengths = λ is_signed. refl; payload = λ is_signed. refl; headers = λ options before. refl; unannounced = λ options. refl; unfit = refl }
checksum_same ts (Some checksum) bytes = alike_same (checksum_trailer checksum bytes) (checksum_trailer checksum []) ts (checksums_alike checksum bytes)

module _ (wanted : SignWanted) (n : ℕ) (bytes : List ℕ) where
  trailers_same : AnnouncesSame (sent_trailers wanted bytes) (announced_trailers wanted)
  trailers_same = checksum_same wanted.trailers (sent_checksum wanted.options) bytes

  same_options : sent_options wanted.options n (sent_trailers wanted bytes) ≡ sent_options wanted.options n (announced_trailers wanted)
  same_options = ap (λ (lengths : List ℕ). record (sent_options wanted.options n []) { trailer_lengths = lengths }) (trailers_same.lengths (signs_chunks wanted.options))

  -- what is announced of trailers that can be sent can be sent of these
  pub fit_to_send : IsFitToSend wanted n (announced_trailers wanted) → IsFitToSend wanted n (sent_trailers wanted bytes)
  fit_to_send fit = (
    trailers_same.unfit ∙ fit.0,
    ap (λ (options : Options). unannounced options (sent_trailers wanted bytes)) same_options
        ∙ trailers_same.unannounced (sent_options wanted.options n (announced_trailers wanted)) ∙ fit.1,
  )

  -- the request announces these trailers
  pub same_case : (signer : SignsFor) (at : Instant) (target : Target)
      → sent_case wanted n (announced_trailers wanted) signer at target ≡ sent_case wanted n (sent_trailers wanted bytes) signer at target
  same_case signer at target = sym
      (ap (λ (options : Options). asked_case (record wanted { headers = announced_headers options (sent_trailers wanted bytes) wanted.headers }) signer
      (announced_payload (signs_chunks wanted.options) (sent_trailers wanted bytes)) at target) same_options
      ∙ ap (λ (headers : List Trailer). asked_case (record wanted { headers = headers }) signer (announced_payload (signs_chunks wanted.options) (sent_trailers wanted bytes)) at target)
      (trailers_same.headers (sent_options wanted.options n (announced_trailers wanted)) wanted.headers)
      ∙ ap (λ (payload : List ℕ). asked_case (announced_wanted wanted n (announced_trailers wanted)) signer payload at target) (trailers_same.payload (signs_chunks wanted.options)))
