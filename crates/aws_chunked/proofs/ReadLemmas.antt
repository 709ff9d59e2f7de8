-- Chunks that are read, part by part.
use Rattle.std.proofs.Common.{◌≡◌, ℕ, ◌-◌, ◌<◌, Bool, true, false, List, [], ◌∷◌, ◌++◌, length, length-append, map, replicate, IsErrAnd, Option, Some, None, Result, Ok, Err, String, string_bytes, refl, ap, sym, subst, ◌∙◌, arith, append_assoc, append-nil}
use Rattle.std.specs.Prelude.{codes}
use Rattle.std.specs.Borrow.{Bor}
use Rattle.std.specs.declared.alloc.Global.{Global}
use Rattle.std.proofs.lemmas.Bool.{false≢true}
use Rattle.std.proofs.lemmas.List.{append_cancel_left, length-replicate, map-append}
use Rattle.aws_chunked.specs.Decoded.{IsSignature}
use Rattle.aws_chunked.specs.Reading.{Expects, Led, StopsWhere}
use Rattle.aws_chunked.specs.Rests.{IsData, IsHeadEnd, IsSignedBy, ReadsData, ReadsHeadEnd, signature_texts}
use Rattle.aws_chunked.specs.Text.{crlf, signature_text}
use Rattle.aws_chunked.specs.declared.decode.chunks.Chunks.{Chunks}
use Rattle.aws_chunked.specs.declared.decode.fault.PartFault.{PartFault}
use Rattle.aws_chunked.specs.declared.decode.fault.PartFault.TheVariants.{Bad}
use Rattle.aws_chunked.proofs.PlaceLemmas.{stops_behind_word, stops_first}
use Rattle.aws_chunked.proofs.RunLemmas.{same_word}
use Rattle.aws_chunked.proofs.SignatureLemmas.{signature_long, signed_some, zeros, zeros_sound}

-- what is told of a fault is told of the answer that passes it on
pub err_exit : {T : Type 0} (Reads : Result T PartFault → Type 0) (result : Result T PartFault) (fault : PartFault) → IsErrAnd result (λ f. f ≡ fault) → Reads (Err fault)
    → Reads result
err_exit Reads (Ok x) fault is told = absurd is
err_exit Reads (Err other) fault is told = subst (λ (f : PartFault). Reads (Err f)) (sym is) told

-- ## Data

pub data_short : (n : ℕ) (bytes : List ℕ) → length bytes < n → StopsWhere (IsData n) (Led (IsData n)) bytes (Bad 0)
data_short n bytes short =
    let more = replicate (n - length bytes) 0 in (
      bytes,
      [],
      sym (append-nil bytes),
      refl,
      (
        more ++ crlf,
        (
          bytes ++ more,
          omega (arith, short, length-append bytes more, length-replicate {A = ℕ} (n - length bytes) 0),
          sym (append_assoc bytes more crlf),
        ),
      ),
      λ led.
          let data_ = led.2 in
          omega (arith, short, ap length led.3, length-append led.0 led.1, ap length data_.2, length-append data_.0 crlf, data_.1),
    )

pub data_read : (n : ℕ) (bytes data_ rest old new : List ℕ) (result : Result (Bor (List ℕ)) PartFault) → bytes ≡ data_ ++ rest → length data_ ≡ n → new ≡ old ++ data_
    → Expects crlf rest result → ReadsData n bytes old new result
data_read n bytes data_ rest old new (Ok behind) parted long grown ended =
    (data_, long, parted ∙ ap (λ (t : List ℕ). data_ ++ t) ended ∙ sym (append_assoc data_ crlf behind.now), grown)
data_read n bytes data_ rest old new (Err fault) parted long grown told =
    stops_behind_word (λ word. word ≡ crlf) (Led (λ word. word ≡ crlf)) (IsData n) (Led (IsData n)) data_ bytes rest fault parted
    (λ text is. (data_, long, ap (λ (t : List ℕ). data_ ++ t) is))
    (λ text _ led.
    let found = led.2 in (
      crlf,
      led.1,
      refl,
      (same_word data_ found.0 text (crlf ++ led.1) (omega (arith, long, found.1))
          (led.3 ∙ ap (λ (w : List ℕ). w ++ led.1) found.2 ∙ append_assoc found.0 crlf led.1)).1,
    ))
    told

-- ## Behind a length

plain_none : (is_signed : Bool) → is_signed ≡ false → IsSignedBy is_signed None
plain_none false is = tt
plain_none true is = absurd (false≢true (sym is))

-- the end of the line alone, where the text isn't signed
plain_word : (is_signed : Bool) (word : List ℕ) → is_signed ≡ false → IsHeadEnd is_signed word → word ≡ crlf
plain_word true word is end = absurd (false≢true (sym is))
plain_word false word is end = by end.0 end.1 end.2
  where
    by : (signature : Option (List ℕ)) → IsSignedBy false signature → word ≡ signature_text signature ++ crlf → word ≡ crlf
    by None signed same = same
    by (Some signature) signed same = absurd signed

pub plain_head : (bytes : List ℕ) (chunks : Chunks) (result : Result (Bor (List ℕ)) PartFault) → chunks.is_signed ≡ false → Expects crlf bytes result
    → ReadsHeadEnd bytes chunks chunks result
plain_head bytes chunks (Ok rest) plain ended =
    (None, plain_none chunks.is_signed plain, ended, sym (append-nil (signature_texts chunks.signatures.items)), refl, refl)
plain_head bytes chunks (Err fault) plain told =
    stops_first (λ word. word ≡ crlf) (Led (λ word. word ≡ crlf)) (IsHeadEnd chunks.is_signed) (Led (IsHeadEnd chunks.is_signed)) bytes fault
    (λ word is. ([], (None, plain_none chunks.is_signed plain, append-nil word ∙ is)))
    (λ all _ led. (led.0, led.1, plain_word chunks.is_signed led.0 plain led.2, led.3))
    told

mark : List ℕ
mark = codes ";chunk-signature="

-- a signature and the end of the line
IsSigned : List ℕ → Type 0
IsSigned word = (signature : List ℕ) × IsSignature signature × (word ≡ signature ++ crlf)

-- the words behind a length of a signed text
signed_word : (is_signed : Bool) (word : List ℕ) → is_signed ≡ true → IsHeadEnd is_signed word → (signature : List ℕ) × IsSignature signature × (word ≡ (mark ++ signature) ++ crlf)
unfolding mark
signed_word false word is end = absurd (false≢true is)
signed_word true word is end = by end.0 end.1 end.2
  where
    by : (signature : Option (List ℕ)) → IsSignedBy true signature → word ≡ signature_text signature ++ crlf
        → (signature_ : List ℕ) × IsSignature signature_ × (word ≡ (mark ++ signature_) ++ crlf)
    by None signed same = absurd signed
    by (Some signature) signed same = (signature, signed, same)

word_signed : (is_signed : Bool) (word signature : List ℕ) → is_signed ≡ true → IsSignature signature → word ≡ (mark ++ signature) ++ crlf → IsHeadEnd is_signed word
unfolding mark
word_signed is_signed word signature is sound same = (Some signature, signed_some is_signed signature is sound, same)

-- what leads with such a word behind the mark
led_signed : (is_signed : Bool) (text : List ℕ) → is_signed ≡ true → Led (IsHeadEnd is_signed) (mark ++ text)
    → (signature : List ℕ) × (more : List ℕ) × IsSignature signature × (text ≡ signature ++ (crlf ++ more))
led_signed is_signed text is led =
    let word = signed_word is_signed led.0 is led.2 in (
      word.0,
      led.1,
      word.1,
      append_cancel_left mark text (word.0 ++ (crlf ++ led.1))
          (led.3 ∙ ap (λ (w : List ℕ). w ++ led.1) (word.2 ∙ append_assoc mark word.0 crlf) ∙ append_assoc mark (word.0 ++ crlf) led.1
          ∙ ap (λ (t : List ℕ). mark ++ t) (append_assoc word.0 crlf led.1)),
    )

-- no mark of a signature
pub mark_stops : (bytes : List ℕ) (chunks : Chunks) (fault : PartFault) → chunks.is_signed ≡ true
    → StopsWhere (λ word. word ≡ codes ";chunk-signature=") (Led (λ word. word ≡ codes ";chunk-signature=")) bytes fault
    → StopsWhere (IsHeadEnd chunks.is_signed) (Led (IsHeadEnd chunks.is_signed)) bytes fault
unfolding mark
mark_stops bytes chunks fault signed told =
    stops_first (λ word. word ≡ mark) (Led (λ word. word ≡ mark)) (IsHeadEnd chunks.is_signed) (Led (IsHeadEnd chunks.is_signed)) bytes fault
    (λ word is. (
      zeros ++ crlf,
      word_signed chunks.is_signed (word ++ (zeros ++ crlf)) zeros signed zeros_sound
          (ap (λ (w : List ℕ). w ++ (zeros ++ crlf)) is ∙ sym (append_assoc mark zeros crlf)),
    ))
    (λ all _ led.
    let word = signed_word chunks.is_signed led.0 signed led.2 in
    (mark, (word.0 ++ crlf) ++ led.1, refl, led.3 ∙ ap (λ (w : List ℕ). w ++ led.1) (word.2 ∙ append_assoc mark word.0 crlf) ∙ append_assoc mark (word.0 ++ crlf) led.1))
    told

-- no signature
pub signature_stops : (bytes before : List ℕ) (chunks : Chunks) (fault : PartFault) → chunks.is_signed ≡ true → bytes ≡ codes ";chunk-signature=" ++ before
    → StopsWhere IsSignature (Led IsSignature) before fault → StopsWhere (IsHeadEnd chunks.is_signed) (Led (IsHeadEnd chunks.is_signed)) bytes fault
unfolding mark IsSigned
signature_stops bytes before chunks fault signed first told =
    stops_behind_word IsSigned (Led IsSignature) (IsHeadEnd chunks.is_signed) (Led (IsHeadEnd chunks.is_signed)) mark bytes before fault first
    (λ text is. word_signed chunks.is_signed (mark ++ text) is.0 signed is.1 (ap (λ (t : List ℕ). mark ++ t) is.2 ∙ sym (append_assoc mark is.0 crlf)))
    (λ text _ led.
    let found = led_signed chunks.is_signed text signed led in
    (found.0, crlf ++ found.1, found.2, found.3))
    (stops_first IsSignature (Led IsSignature) IsSigned (Led IsSignature) before fault (λ word is. (crlf, (word, is, refl))) (λ all _ led. led) told)

-- a signature, and what stands behind it
pub signed_head : (bytes before behind signature : List ℕ) (old new : Chunks) (text : String Global) (result : Result (Bor (List ℕ)) PartFault) → old.is_signed ≡ true
    → bytes ≡ codes ";chunk-signature=" ++ before → string_bytes text ≡ signature → IsSignature signature → before ≡ signature ++ behind → Expects crlf behind result
    → new.signatures.items ≡ old.signatures.items ++ text ∷ [] → new.is_signed ≡ old.is_signed → new.body ≡ old.body → ReadsHeadEnd bytes old new result
unfolding mark
signed_head bytes before behind signature old new text (Ok rest) signed first is sound second ended more same body = (
  Some signature,
  signed_some old.is_signed signature signed sound,
  first ∙ ap (λ (r : List ℕ). mark ++ r) (second ∙ ap (λ (r : List ℕ). signature ++ r) ended ∙ sym (append_assoc signature crlf rest.now))
      ∙ sym (append_assoc mark (signature ++ crlf) rest.now)
      ∙ ap (λ (t : List ℕ). t ++ rest.now) (sym (append_assoc mark signature crlf)),
  ap (map string_bytes) more ∙ map-append string_bytes old.signatures.items (text ∷ []) ∙ ap (λ (s : List ℕ). signature_texts old.signatures.items ++ s ∷ []) is,
  same,
  body,
)
signed_head bytes before behind signature old new text (Err fault) signed first is sound second told more same body =
    stops_behind_word (λ word. word ≡ crlf) (Led (λ word. word ≡ crlf)) (IsHeadEnd old.is_signed) (Led (IsHeadEnd old.is_signed)) (mark ++ signature) bytes behind fault
    (first ∙ ap (λ (r : List ℕ). mark ++ r) second ∙ sym (append_assoc mark signature behind))
    (λ rest ended. word_signed old.is_signed ((mark ++ signature) ++ rest) signature signed sound (ap (λ (t : List ℕ). (mark ++ signature) ++ t) ended))
    (λ rest _ led.
    let found = led_signed old.is_signed (signature ++ rest) signed (subst (Led (IsHeadEnd old.is_signed)) (append_assoc mark signature rest) led) in
    (crlf, found.1, refl, (same_word signature found.0 rest (crlf ++ found.1) (omega (arith, signature_long signature sound, signature_long found.0 found.2)) found.3).1))
    told
