-- The signing key of AWS Signature Version 4.
use Rattle.std.specs.Prelude.{List, ℕ, ◌++◌, codes}
use Rattle.mac_core.specs.Mac.{mac}
use Rattle.smithy_core.specs.Civil.{date}
use Rattle.smithy_core.specs.Moment.{Instant}

-- who signs, and for which region and service
pub record Signer : Type 0 where
  pub secret : List ℕ
  pub region : List ℕ
  pub name : List ℕ

-- `date/region/name/aws4_request`
unfoldable pub scope : Instant → List ℕ → List ℕ → List ℕ
scope t region name = date t ++ codes "/" ++ region ++ codes "/" ++ name ++ codes "/aws4_request"

-- the HMAC of the date under `AWS4` and the secret, then of the region, of the name and of `aws4_request`, each under the HMAC before it
unfoldable pub signing_key : Signer → Instant → List ℕ
signing_key signer t = mac (mac (mac (mac (codes "AWS4" ++ signer.secret) (date t)) signer.region) signer.name) (codes "aws4_request")
