use Rattle.std.proofs.Common.{◌≡◌, ◌∙◌, ap, Some, List, ℕ, string_bytes, rules}
use Rattle.std.specs.Prelude.{option_map}
use Rattle.env_config.proofs.GroupLemmas.{sub_found}
use Rattle.env_config.proofs.properties.sub_value.Goals as goal

pub returns-in-Some : goal.returns-in-Some
returns-in-Some c =
    let text : c.as_str.result.now ≡ string_bytes c.in-Some.value.now = search rules in
    ap (λ (xs : List ℕ). Some xs) text ∙ ap (option_map string_bytes) c.in-Some.ensures.value ∙ sub_found c.args.subs.now.entries c.args.name.now

pub returns-in-None : goal.returns-in-None
returns-in-None c = ap (option_map string_bytes) c.in-None.ensures.value ∙ sub_found c.args.subs.now.entries c.args.name.now
