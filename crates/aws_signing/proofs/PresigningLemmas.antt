-- A URL that is presigned, and one that is presigned already.
use Rattle.std.proofs.Common.{◌≡◌, ℕ, true, false, List, sym, ap, ◌∙◌}
use Rattle.std.specs.Prelude.{Bool}
use Rattle.http_uri.specs.declared.uri.Uri.{Uri}
use Rattle.smithy_http.specs.QueryWriter.{SpellsNoTarget, SpellsTarget}
use Rattle.smithy_http.specs.Target.{Target, target_of}
use Rattle.sigv4.specs.Query.{Pair, decoded}
use Rattle.presign_check.proofs.SignatureLemmas.{one_target, spelled_once}
use Rattle.aws_signing.specs.Presigning.{IsPresignedAlready, DecidesPresigned, has_signature_pair}

-- the pairs of the query that a text spells decide whether it is presigned
pub presigned_decided : (text : List ℕ) (uri : Uri) (pairs : List Pair) → SpellsTarget text uri → pairs ≡ decoded (target_of uri) → DecidesPresigned text (has_signature_pair pairs)
presigned_decided text uri pairs spells are = by (has_signature_pair pairs) (ap has_signature_pair are)
  where
    by : (is : Bool) → is ≡ has_signature_pair (decoded (target_of uri)) → DecidesPresigned text is
    by true same = (uri, spells, sym same)
    by false same = λ presigned.
        let one : target_of presigned.0 ≡ target_of uri = one_target text presigned.0 uri presigned.1.0 spells in
        let no : false ≡ true = same ∙ ap (λ (target : Target). has_signature_pair (decoded target)) (sym one) ∙ presigned.2 in
        cc

-- a text that spells no target isn't presigned
pub not_presigned : (text : List ℕ) → SpellsNoTarget text → IsPresignedAlready text → ⊥
not_presigned text none presigned = spelled_once text presigned.0 presigned.1 none
