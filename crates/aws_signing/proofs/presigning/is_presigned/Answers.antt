use Rattle.std.proofs.Common.{ap, ◌∙◌}
use Rattle.smithy_core.specs.TextPairs.{text_pairs}
use Rattle.aws_signing.proofs.PresigningLemmas.{not_presigned, presigned_decided}
use Rattle.aws_signing.proofs.presigning.is_presigned.Goals as goal

pub returns-in_ok-query_pairs-in-Ok : goal.returns-in_ok-query_pairs-in-Ok
returns-in_ok-query_pairs-in-Ok c =
    let pairs = ap text_pairs c.as_slice.ensures.value ∙ c.in_ok-query_pairs-in-Ok.ensures in
    rw c.has_signature_pair.ensures (presigned_decided c.args.text.now c.in-Ok.uri _ c.in-Ok.ensures pairs)

pub returns-in-Err-InvalidUri : goal.returns-in-Err-InvalidUri
returns-in-Err-InvalidUri c = not_presigned c.args.text.now (rw c.in-Err-InvalidUri.field-0-is at c.in-Err-InvalidUri.ensures)
