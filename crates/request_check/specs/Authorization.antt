-- The `authorization` header of AWS Signature Version 4, and its parts.
use Rattle.std.specs.Prelude.{◌≡◌, ℕ, true, false, List}
use Rattle.sigv4.specs.Signed.{authorization_text}
use Rattle.sigv4.specs.Signature.{is_signature}
use Rattle.request_check.specs.SealTexts.{has_space}

-- the text is an authorization of these parts: with one space after each comma, and none in the names, so that it has one reading
pub record IsAuthorization (text credential names signature : List ℕ) : Type 0 where
  pub digits : is_signature signature ≡ true
  pub one_reading : has_space names ≡ false
  pub parts : text ≡ authorization_text credential names signature
