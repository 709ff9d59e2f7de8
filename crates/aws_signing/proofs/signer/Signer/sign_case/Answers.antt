use Rattle.std.proofs.lemmas.Result.{err_from_is_err_and}
use Rattle.std.specs.Prelude.{option_copied, string_bytes}
use Rattle.sigv4.specs.Settings.{settings_of}
use Rattle.aws_signing.specs.SigningBy.{SigningState}
use Rattle.aws_signing.proofs.SigningByLemmas.{not_put_in_by, put_in_by, refused_by}
use Rattle.aws_signing.proofs.signer.Signer.sign_case.Goals as goal

pub returns-in_err-output-clause-signs : goal.returns-in_err-output-clause-signs
returns-in_err-output-clause-signs c =
    let exit = err_from_is_err_and c.from_residual-in_err-output.result c.from_residual-in_err-output.ensures.1 in
    let by : SigningState = record { holder = c.self.inside.holder; settings = settings_of c.self.inside.settings } in
    rw (exit.1, exit.2, ← c.self.view_is)
    (refused_by by c.key_at.new.self c.args.request.now (option_copied c.args.payload) c.args.seconds c.args.at c.key_at.ensures.kept c.in_ok-key.ensures.key.0 _
    c.in_err-output.ensures.parts)

pub returns-in_err-apply_to_parsed-clause-signs : goal.returns-in_err-apply_to_parsed-clause-signs
returns-in_err-apply_to_parsed-clause-signs c =
    let exit = err_from_is_err_and c.from_residual-in_err-apply_to_parsed.result c.from_residual-in_err-apply_to_parsed.ensures.1 in
    let by : SigningState = record { holder = c.self.inside.holder; settings = settings_of c.self.inside.settings } in
    let made = rw c.into_parts-instructions.ensures at c.in_err-apply_to_parsed.ensures.target in
    rw (exit.1, exit.2, ← c.self.view_is)
    (not_put_in_by by c.key_at.new.self c.args.request.now (option_copied c.args.payload) c.args.seconds c.args.at c.key_at.ensures.kept c.in_ok-key.ensures.key.0
    c.in_ok-output.output c.in_ok-output.uri c.in_ok-output.ensures.parts (string_bytes c.apply_to_parsed.new.request.target) _ made)

pub returns-clause-signs : goal.returns-clause-signs
returns-clause-signs c =
    let by : SigningState = record { holder = c.self.inside.holder; settings = settings_of c.self.inside.settings } in
    let made = rw c.into_parts-instructions.ensures at c.in_ok-apply_to_parsed.ensures in
    rw (c.into_parts-instructions.ensures, ← c.self.view_is)
    (put_in_by by c.key_at.new.self c.args.request.now c.apply_to_parsed.new.request (option_copied c.args.payload) c.args.seconds c.args.at c.key_at.ensures.kept
    c.in_ok-key.ensures.key.0 c.in_ok-output.output c.in_ok-output.uri c.in_ok-output.ensures.parts made.headers made.target)
