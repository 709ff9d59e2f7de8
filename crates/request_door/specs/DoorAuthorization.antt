-- The `authorization` header of AWS Signature Version 4 as a service's door takes it: also with other blanks after its commas than the one space.
use Rattle.std.specs.Prelude.{◌≡◌, ◌⊎◌, ℕ, ◌≤◌, ◌==◌, Bool, true, false, ◌||◌, List, [], ◌∷◌, ◌++◌, codes, length, Option, Some, None}
use Rattle.std.specs.Borrow.{Bor}
use Rattle.std.specs.List.{list_all, list_any}
use Rattle.smithy_core.specs.Text.{space, tab}
use Rattle.sigv4.specs.CanonicalHeaders.{comma}
use Rattle.sigv4.specs.Signature.{is_signature}
use Rattle.request_check.specs.Authorization.{IsAuthorization}
use Rattle.request_check.specs.Carried.{ReadsAuthorization}
use Rattle.request_check.specs.SealTexts.{has_space}
use Rattle.request_check.specs.declared.authorization.Authorization.{Authorization}

-- the text holds a comma
unfoldable pub has_comma : List ℕ → Bool
has_comma text = list_any (λ b. b == comma) text

-- a byte of optional whitespace (RFC 9110): a space or a tab
abbrev pub is_optional_whitespace : ℕ → Bool
is_optional_whitespace byte = (byte == space) || (byte == tab)

-- the text is empty, or begins with a space or a tab
abbrev pub begins_blank : List ℕ → Bool
begins_blank [] = true
begins_blank (byte ∷ bytes) = is_optional_whitespace byte

-- the text is a label and what it labels, behind any number of spaces and tabs
pub record IsLabelled (label labelled text : List ℕ) : Type 0 where
  pub blanks : List ℕ
  pub are_blank : list_all is_optional_whitespace blanks ≡ true
  pub parts : text ≡ blanks ++ (label ++ labelled)

-- the text is an authorization of these parts with any number of spaces and tabs after each comma, and neither a space nor a comma in the names
pub record IsSpacedAuthorization (text credential names signature : List ℕ) : Type 0 where
  pub digits : is_signature signature ≡ true
  pub whole : has_space names ≡ false
  pub one_reading : has_comma names ≡ false
  pub named : List ℕ
  pub signed : List ℕ
  pub names_are : IsLabelled (codes "SignedHeaders=") names named
  pub signature_is : IsLabelled (codes "Signature=") signature signed
  pub parts : text ≡ (codes "AWS4-HMAC-SHA256 Credential=" ++ credential) ++ (codes "," ++ (named ++ (codes "," ++ signed)))

-- the door takes the text as an authorization of these parts: with one space after each comma, and where it is no such authorization, with other blanks there
abbrev pub IsDoorAuthorization : List ℕ → List ℕ → List ℕ → List ℕ → Type 0
IsDoorAuthorization text credential names signature =
    IsAuthorization text credential names signature ⊎ (ReadsAuthorization text None × IsSpacedAuthorization text credential names signature)

-- the parts of an authorization that the door takes, or that it takes the text as none
abbrev pub ReadsDoorAuthorization : List ℕ → Option Authorization → Type 0
ReadsDoorAuthorization text None = (credential names signature : List ℕ) → IsDoorAuthorization text credential names signature → ⊥
ReadsDoorAuthorization text (Some read) = IsDoorAuthorization text read.credential.now read.names.now read.signature.now

-- the parts of an authorization with any blanks after its commas, or that the text is none
abbrev pub ReadsSpaced : List ℕ → Option Authorization → Type 0
ReadsSpaced text None = (credential names signature : List ℕ) → IsSpacedAuthorization text credential names signature → ⊥
ReadsSpaced text (Some read) = IsSpacedAuthorization text read.credential.now read.names.now read.signature.now

-- what stands behind blanks and a label, or that the text isn't so
abbrev pub CutsLabel : List ℕ → List ℕ → Option (Bor (List ℕ)) → Type 0
CutsLabel label text None = (labelled : List ℕ) → IsLabelled label labelled text → ⊥
CutsLabel label text (Some labelled) = IsLabelled label labelled.now text

-- the text before and after the first place of a mark, or that it has none
abbrev pub CutsFirst : List ℕ → List ℕ → Option (Bor (List ℕ) × Bor (List ℕ)) → Type 0
CutsFirst mark text None = (front back : List ℕ) → text ≡ front ++ (mark ++ back) → ⊥
CutsFirst mark text (Some parts) =
    (text ≡ parts.0.now ++ (mark ++ parts.1.now)) × ((front back : List ℕ) → text ≡ front ++ (mark ++ back) → length parts.0.now ≤ length front)
