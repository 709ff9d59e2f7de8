use Rattle.std.proofs.Common.{◌≡◌, ℕ, Bool, List, ap, option_copied, subst, ◌∙◌}
use Rattle.std.specs.Prelude.{string_bytes}
use Rattle.awsign_run.specs.Chosen.{signs_for_of}
use Rattle.awsign_run.specs.Signing.{SignsPrinted, asked_case, asked_payload, is_s3}
use Rattle.awsign_words.specs.Words.{sign_wanted}
use Rattle.awsign_run.proofs.signing.print_signed.Goals as goal

pub returns-in-Ok : goal.returns-in-Ok
returns-in-Ok c =
    let asks = sign_wanted c.args.asked.now in
    let signer = c.args.signer in
    let digest = option_copied c.args.digest in
    let s3 : c.is_s3-s3.result ≡ is_s3 asks.options (string_bytes signer.service) = c.is_s3-s3.ensures ∙ ap (is_s3 asks.options) c.as_str.ensures.value in
    let payload : string_bytes c.in-Ok.payload ≡ asked_payload asks (is_s3 asks.options (string_bytes signer.service)) digest =
    c.in-Ok.ensures ∙ ap (λ (v : Bool). asked_payload asks v digest) s3 in
    let Signs : List ℕ → Type 0 = λ text. SignsPrinted asks (asked_case asks (signs_for_of signer) text c.args.at) c.print_over.result in
    subst Signs payload c.print_over.ensures
