-- Signing a signed request again, in header form.
use Rattle.std.specs.Prelude.{◌≡◌, ℕ, false, List, Some, None}
use Rattle.sigv4.specs.Refusal.{unfit}
use Rattle.sigv4.specs.Request.{Case}
use Rattle.sigv4.specs.Settings.{default_exclusions, is_query_form}
use Rattle.sigv4.specs.Signed.{signature_of, signed_headers, signed_target}

-- the case of a signed request, with the same settings, key, token, signer and moment: its headers are the signed ones, and its method, target and
-- payload's text are those that were signed
abbrev pub again : Case → Case
again c = record c { headers = signed_headers c }

-- in header form the signed request has the target that was signed, as it is written
abbrev pub HasSameTarget : Case → Type 0
HasSameTarget c = (text : List ℕ) → is_query_form c.settings ≡ false → signed_target c text ≡ text

-- the signed request of a case isn't refused, and has the signature of the case
pub record IsSignedAlike (c : Case) : Type 0 where
  pub unrefused : unfit (again c) ≡ None
  pub signature : signature_of (again c) ≡ signature_of c

-- in header form, where the usual names aren't signed and nothing is refused, the signed request can be signed again, with the same signature
abbrev pub SignsAgain : Case → Type 0
SignsAgain c = is_query_form c.settings ≡ false → c.settings.excluded_headers ≡ Some default_exclusions → unfit c ≡ None → IsSignedAlike c
