-- The signed request of AWS Signature Version 4, in header form and in query form.
use Rattle.std.specs.Prelude.{ℕ, Bool, true, false, List, [], ◌∷◌, ◌++◌, codes, Option, Some, None, if◌then◌else◌}
use Rattle.smithy_core.specs.Civil.{stamp}
use Rattle.sigv4.specs.Canonical.{canonical, credential, joined_names, names, signing_parameters, header_payload, token_header, token_pairs, token_parameter}
use Rattle.sigv4.specs.Instructions.{Instruction, with_instructions}
use Rattle.sigv4.specs.Parameters.{target_text_with}
use Rattle.sigv4.specs.Query.{Pair}
use Rattle.sigv4.specs.Request.{Case}
use Rattle.sigv4.specs.Settings.{Settings, is_query_form}
use Rattle.sigv4.specs.Signature.{signature}

-- the signature of a case
unfoldable pub signature_of : Case → List ℕ
signature_of c = signature c.signer c.at (canonical c)

-- the algorithm, the credential, the names of the signed headers and the signature
abbrev pub authorization_text : List ℕ → List ℕ → List ℕ → List ℕ
authorization_text credential_text names_text signature_text =
    codes "AWS4-HMAC-SHA256 Credential=" ++ (credential_text ++ (codes ", SignedHeaders=" ++ (names_text ++ (codes ", Signature=" ++ signature_text))))

-- the authorization of a case
unfoldable pub authorization : Case → List ℕ
authorization c = authorization_text (credential c) (joined_names (names c)) (signature_of c)

-- a header that may be told
abbrev pub plain : List ℕ → List ℕ → Instruction
plain name value = record { name = name; value = value; sensitive = false }

-- a header, where there is a value
abbrev pub optional_header : List ℕ → Bool → Option (List ℕ) → List Instruction
optional_header name sensitive None = []
optional_header name sensitive (Some value) = record { name = name; value = value; sensitive = sensitive } ∷ []

-- the date, the authorization, the payload's text and the token
abbrev pub instructions_for : Settings → List ℕ → List ℕ → Option (List ℕ) → Option (List ℕ) → List Instruction
instructions_for settings date authorization payload token =
    (plain (codes "x-amz-date") date ∷ plain (codes "authorization") authorization ∷ [])
    ++ optional_header (codes "x-amz-content-sha256") false payload
    ++ optional_header (token_header settings) true token

-- the headers that go out of a case in header form: the token also where it isn't signed
unfoldable pub instructions : Case → List Instruction
instructions c =
    if is_query_form c.settings then []
    else instructions_for c.settings (stamp c.at) (authorization c) (header_payload c.settings.payload_checksum_kind c.payload) c.token

-- the parameters that go out of a case in query form, in order: those that are signed, the signature, and the token also where it isn't signed
unfoldable pub parameters : Case → List Pair
parameters c =
    if is_query_form c.settings
    then signing_parameters c ++ (codes "X-Amz-Signature", signature_of c) ∷ token_pairs (token_parameter c.settings) c.token
    else []

-- the headers of the signed request
unfoldable pub signed_headers : Case → List Pair
signed_headers c = with_instructions c.headers (instructions c)

-- the target of the signed request, where the request's own target was given by a text: in header form this text, as it is written
unfoldable pub signed_target : Case → List ℕ → List ℕ
signed_target c text = target_text_with (parameters c) c.target text
