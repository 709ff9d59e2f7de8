-- What a signer answers for a part.
use Rattle.std.proofs.Common.{◌≡◌, ℕ, true, false, Bool, List, [], ◌∷◌, Option, None, Some, refl, ap, sym, subst, ◌∙◌, ◌⊎◌, inl, inr}
use Rattle.std.specs.Prelude.{Ok, Err, String}
use Rattle.std.specs.declared.alloc.Global.{Global}
use Rattle.eventstream.specs.declared.error.ErrorKind.{ErrorKind}
use Rattle.eventstream.specs.declared.error.ErrorKind.TheVariants as kind
use Rattle.eventstream.specs.Error.{error_kind}
use Rattle.sigv4.specs.declared.error.SigningError.{SigningError}
use Rattle.sigv4.specs.declared.error.SigningError.TheVariants as signing
use Rattle.aws_chunked.specs.Body.{listed}
use Rattle.aws_chunked.specs.Error.{signing_error, signing_error_for}
use Rattle.aws_chunked.specs.declared.error.AwsChunkedBodyError.{AwsChunkedBodyError}
use Rattle.aws_chunked.specs.declared.error.AwsChunkedBodyError.TheVariants.{FailedToSign, NoMemory}
use Rattle.aws_chunked.specs.Signing.{Answering, SignsWhereSigned, has_signature}

-- the signature that the signer of a signed body answers
pub signs_some : {G : Type 0} (answers : Answering G) (is_signed : Bool) (held : Option G) (old new : G) (answer : String Global)
    → is_signed ≡ true → held ≡ Some old → answers old (Ok answer) new → SignsWhereSigned answers is_signed held (Ok (Some answer)) (Some new)
signs_some answers is_signed held old new answer signed is told = rw (signed, is) (new, answer, told, refl, refl)

-- no trailers have no signature
pub unsigned_empty : (is_signed : Bool) (trailers : List (List ℕ × List ℕ)) → trailers ≡ [] → false ≡ has_signature is_signed trailers
unsigned_empty is_signed trailers none = sym (ap (has_signature is_signed) none)

-- others have one in a signed body
pub signed_filled : (is_signed : Bool) (trailers : List (List ℕ × List ℕ)) → (trailers ≡ [] → ⊥) → is_signed ≡ has_signature is_signed trailers
signed_filled is_signed [] some = absurd (some refl)
signed_filled is_signed (trailer ∷ trailers) some = refl

pub signs_trailers : {G : Type 0} (answers : List (List ℕ × List ℕ) → Answering G) (is_signed asked has : Bool) (kept : Option (List (List ℕ × List ℕ)))
    (trailers : List (List ℕ × List ℕ)) (held : Option G) (old new : G) (answer : String Global) → kept ≡ Some trailers → asked ≡ is_signed
    → has ≡ has_signature asked trailers → has ≡ true → held ≡ Some old → answers trailers old (Ok answer) new
    → SignsWhereSigned (answers (listed kept)) (has_signature is_signed (listed kept)) held (Ok (Some answer)) (Some new)
signs_trailers answers is_signed asked has kept trailers held old new answer is same asks signed held_is told =
    signs_some (answers (listed kept)) (has_signature is_signed (listed kept)) held old new answer
    ((λ i. has_signature (sym same i) (listed (is i))) ∙ sym asks ∙ signed) held_is
    (subst (λ (ts : List (List ℕ × List ℕ)). answers ts old (Ok answer) new) (sym (ap listed is)) told)

-- ---- the error of a signing

abbrev pub IsOfSigning : AwsChunkedBodyError → Type 0
IsOfSigning error = (error ≡ NoMemory) ⊎ ((why : SigningError) × (error ≡ FailedToSign why))

for_kind : (of : ErrorKind) (error : SigningError) → IsOfSigning (signing_error_for of error)
for_kind kind.HeadersTooLong error = inr (error, refl)
for_kind kind.HeaderValueTooLong error = inr (error, refl)
for_kind kind.InvalidHeaderNameLength error = inr (error, refl)
for_kind kind.InvalidHeaderValue error = inr (error, refl)
for_kind (kind.InvalidHeaderValueType n) error = inr (error, refl)
for_kind kind.InvalidHeadersLength error = inr (error, refl)
for_kind kind.InvalidMessageLength error = inr (error, refl)
for_kind kind.InvalidUtf8String error = inr (error, refl)
for_kind (kind.MessageChecksumMismatch a b) error = inr (error, refl)
for_kind kind.MessageTooLong error = inr (error, refl)
for_kind kind.PayloadTooLong error = inr (error, refl)
for_kind (kind.PreludeChecksumMismatch a b) error = inr (error, refl)
for_kind (kind.TimestampValueTooLarge t) error = inr (error, refl)
for_kind (kind.Marshalling text) error = inr (error, refl)
for_kind (kind.Unmarshalling text) error = inr (error, refl)
for_kind kind.NoMemory error = inl refl

of_signing : (why : SigningError) → IsOfSigning (signing_error why)
of_signing signing.InvalidUri = inr (signing.InvalidUri, refl)
of_signing (signing.InvalidHeaderName place) = inr (signing.InvalidHeaderName place, refl)
of_signing (signing.InvalidHeaderValue place) = inr (signing.InvalidHeaderValue place, refl)
of_signing signing.MissingHost = inr (signing.MissingHost, refl)
of_signing signing.InvalidTokenName = inr (signing.InvalidTokenName, refl)
of_signing signing.MissingExpires = inr (signing.MissingExpires, refl)
of_signing signing.UnsupportedIdentityType = inr (signing.UnsupportedIdentityType, refl)
of_signing (signing.FailedToEncodeMessage error) = for_kind (error_kind error) (signing.FailedToEncodeMessage error)
of_signing (signing.MomentOutOfRange t) = inr (signing.MomentOutOfRange t, refl)
of_signing signing.SignerNotWired = inr (signing.SignerNotWired, refl)
of_signing signing.NoMemory = inl refl

pub signs_error : {G : Type 0} (answers : Answering G) (is_signed : Bool) (held new : Option G) (error : AwsChunkedBodyError)
    → SignsWhereSigned answers is_signed held (Err error) new → IsOfSigning error
signs_error answers false held new error signs = absurd signs
signs_error answers true None new error signs = inr (signing.SignerNotWired, signs.0)
signs_error answers true (Some old) new error signs = subst IsOfSigning (sym signs.3) (of_signing signs.1)
