use Rattle.std.proofs.Common.{refl, inr}
use Rattle.std.proofs.lemmas.Result.{err_from_is_err_and}
use Rattle.aws_signing.proofs.signer.Signer.presign.Goals as goal

pub returns-in_err-presign_request : goal.returns-in_err-presign_request
returns-in_err-presign_request c =
    let exit = err_from_is_err_and c.from_residual-in_err-presign_request.result c.from_residual-in_err-presign_request.ensures.1 in
    let refuses = rw (c.in_ok-request.ensures.method, c.in_ok-request.ensures.target) at c.in_err-presign_request.ensures.url in
    rw (exit.1, exit.2) (inr (c.in_ok-test_presigning.ensures, (c.in_err-presign_request.field-0.0, refuses, refl), c.presign_request.ensures.kept))
