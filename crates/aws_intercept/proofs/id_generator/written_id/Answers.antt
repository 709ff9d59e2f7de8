use Rattle.std.proofs.Common.{◌≡◌, List, ℕ, arith, string_bytes, subst, sym}
use Rattle.std.proofs.lemmas.Grind.{common_steps}
use Rattle.smithy_core.specs.HeaderGrammar.{IsHeaderValue}
use Rattle.uuid.specs.Text.{hyphenated_text, lower}
use Rattle.aws_intercept.proofs.InvocationLemmas.{id_is_value, id_length}
use Rattle.aws_intercept.proofs.id_generator.written_id.Goals as goal

pub from_text-requires : goal.from_text-requires
from_text-requires c =
    let written : string_bytes c.push_str.new.self ≡ hyphenated_text lower c.args.id = grind (arith, common_steps, id_length) in
    let IsValue : List ℕ → Type 0 = λ text. IsHeaderValue text in
    subst IsValue (sym written) (id_is_value c.args.id)
