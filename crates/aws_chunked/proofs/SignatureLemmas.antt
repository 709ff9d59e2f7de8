-- Signatures that are read.
use Rattle.std.proofs.Common.{◌≡◌, ℕ, ◌+◌, ◌-◌, ◌<◌, ◌≤◌, ◌==◌, Bool, true, false, List, [], ◌∷◌, ◌++◌, length, get_or, replicate, Option, Some, None, refl, ap, sym, subst, ◌∙◌, arith, append_assoc}
use Rattle.std.specs.Prelude.{All, IsTrue}
use Rattle.std.specs.List.{list_all}
use Rattle.std.proofs.lemmas.Bool.{and_parts, eqb-true, false≢true}
use Rattle.std.proofs.lemmas.List.{get_or_append_left, length-append, length-replicate, nil_from_length}
use Rattle.std.proofs.lemmas.List.Elements.{All-append, All-push, All-replicate}
use Rattle.std.proofs.lemmas.List.Sums.{AllPass-from_list_all, list_all-from_AllPass}
use Rattle.sigv4.specs.Signature.{is_lower_digit, is_signature}
use Rattle.sigv4.proofs.DigitLemmas.{digit_low}
use Rattle.aws_chunked.specs.Decoded.{CanGoOn, IsSignature}
use Rattle.aws_chunked.specs.Reading.{Led, RefusesNext, StopsWhere}
use Rattle.aws_chunked.specs.Rests.{IsSignedBy}
use Rattle.aws_chunked.specs.declared.decode.fault.PartFault.{PartFault}
use Rattle.aws_chunked.specs.declared.decode.fault.PartFault.TheVariants.{Bad}
use Rattle.aws_chunked.proofs.StopLemmas.{byte_behind, stops_behind}

-- ## What a signature is

pub signature_from : (text : List ℕ) → length text ≡ 64 → All (λ byte. IsTrue (is_lower_digit byte)) text → IsSignature text
unfolding is_signature
signature_from text long digits = rw (long, list_all-from_AllPass is_lower_digit text digits) refl

pub signature_long : (text : List ℕ) → IsSignature text → length text ≡ 64
unfolding is_signature
signature_long text is = eqb-true (length text) 64 (and_parts (length text == 64) (list_all is_lower_digit text) is).0

pub signature_digits : (text : List ℕ) → IsSignature text → All (λ byte. IsTrue (is_lower_digit byte)) text
unfolding is_signature
signature_digits text is = AllPass-from_list_all is_lower_digit text (and_parts (length text == 64) (list_all is_lower_digit text) is).1

-- ## There are signatures

pub zeros : List ℕ
zeros = replicate 64 48

pub zeros_sound : IsSignature zeros
unfolding zeros
zeros_sound = signature_from (replicate 64 48) (length-replicate {A = ℕ} 64 48) (All-replicate (λ byte. IsTrue (is_lower_digit byte)) 64 48 refl)

-- a signature, where the text is signed
pub some_signature : Bool → Option (List ℕ)
some_signature false = None
some_signature true = Some zeros

pub some_signed : (is_signed : Bool) → IsSignedBy is_signed (some_signature is_signed)
unfolding some_signature
some_signed false = tt
some_signed true = zeros_sound

pub signed_some : (is_signed : Bool) (signature : List ℕ) → is_signed ≡ true → IsSignature signature → IsSignedBy is_signed (Some signature)
signed_some true signature is sound = sound
signed_some false signature is sound = absurd (false≢true is)

-- ## Signatures that are read

-- a digit more
pub digit_read : (byte : ℕ) (bytes text now more rest others : List ℕ) → bytes ≡ text ++ rest → rest ≡ byte ∷ others → now ≡ text ++ more → (byte < 128 → more ≡ byte ∷ [])
    → is_lower_digit byte ≡ true → bytes ≡ now ++ others
digit_read byte bytes text now more rest others read first pushed ascii is =
    read ∙ ap (λ (r : List ℕ). text ++ r) first ∙ sym (append_assoc text (byte ∷ []) others)
    ∙ ap (λ (t : List ℕ). t ++ others) (ap (λ (m : List ℕ). text ++ m) (sym (ascii (digit_low byte is))) ∙ sym pushed)

pub digit_long : (byte : ℕ) (text now more : List ℕ) (n : ℕ) → length text ≡ n → now ≡ text ++ more → (byte < 128 → more ≡ byte ∷ []) → is_lower_digit byte ≡ true → length now ≡ n + 1
digit_long byte text now more n long pushed ascii is =
    omega (arith, long, ap length pushed, length-append text more, ap length (ascii (digit_low byte is)))

pub digits_read : (byte : ℕ) (text now more : List ℕ) → All (λ byte. IsTrue (is_lower_digit byte)) text → now ≡ text ++ more → (byte < 128 → more ≡ byte ∷ [])
    → is_lower_digit byte ≡ true → All (λ byte. IsTrue (is_lower_digit byte)) now
digits_read byte text now more are pushed ascii is =
    subst (λ (t : List ℕ). All (λ byte. IsTrue (is_lower_digit byte)) t) (sym (pushed ∙ ap (λ (m : List ℕ). text ++ m) (ascii (digit_low byte is))))
    (All-push (λ byte. IsTrue (is_lower_digit byte)) text byte are is)

-- the first digits of a signature
pub begins_signature : (front : List ℕ) → length front ≤ 64 → All (λ byte. IsTrue (is_lower_digit byte)) front → CanGoOn IsSignature front
begins_signature front low are = (
  replicate (64 - length front) 48,
  signature_from (front ++ replicate (64 - length front) 48)
      (omega (arith, low, length-append front (replicate (64 - length front) 48), length-replicate {A = ℕ} (64 - length front) 48))
      (All-append (λ byte. IsTrue (is_lower_digit byte)) front (replicate (64 - length front) 48) are
      (All-replicate (λ byte. IsTrue (is_lower_digit byte)) (64 - length front) 48 refl)),
)

pub signature_ends : (bytes front rest : List ℕ) (i : ℕ) (fault : PartFault) → i < 64 → length front ≡ i → All (λ byte. IsTrue (is_lower_digit byte)) front
    → bytes ≡ front ++ rest → length rest ≡ 0 → fault ≡ Bad (length rest) → StopsWhere IsSignature (Led IsSignature) bytes fault
signature_ends bytes front rest i fault low long are read none told =
    stops_behind IsSignature (Led IsSignature) bytes front rest fault told read (begins_signature front (omega (arith, low, long)) are)
    (subst (RefusesNext (Led IsSignature) front) (sym (nil_from_length rest none)) (λ led.
    omega (arith, low, long, ap length led.3, length-append led.0 led.1, signature_long led.0 led.2)))

pub signature_differs : (bytes front rest others : List ℕ) (i byte : ℕ) (fault : PartFault) → i < 64 → length front ≡ i → All (λ byte. IsTrue (is_lower_digit byte)) front
    → bytes ≡ front ++ rest → rest ≡ byte ∷ others → is_lower_digit byte ≡ false → fault ≡ Bad (length rest) → StopsWhere IsSignature (Led IsSignature) bytes fault
signature_differs bytes front rest others i byte fault low long are read first other told =
    stops_behind IsSignature (Led IsSignature) bytes front rest fault told read (begins_signature front (omega (arith, low, long)) are)
    (subst (RefusesNext (Led IsSignature) front) (sym first) (λ begins.
    let led = begins.1 in
    let same : byte ≡ get_or led.0 i 0 =
    sym (byte_behind front byte begins.0 i long) ∙ ap (λ (xs : List ℕ). get_or xs i 0) led.3
    ∙ get_or_append_left led.0 led.1 0 i (omega (arith, low, signature_long led.0 led.2)) in
    false≢true (sym other ∙ ap is_lower_digit same ∙ signature_digits led.0 led.2 i 0 (omega (arith, low, signature_long led.0 led.2)))))
