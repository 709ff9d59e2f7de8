-- The text of a user agent, part by part.
use Rattle.std.proofs.Common.{◌≡◌, ℕ, List, ◌∷◌, ◌++◌, Option, Some, None, codes, map, refl, ◌∙◌, ap, option_map, option_to_list, append_assoc}
use Rattle.std.proofs.lemmas.Grind.{flat_map-append}
use Rattle.std.proofs.lemmas.List.{append-nil}
use Rattle.std.specs.List.{join_by}
use Rattle.aws_intercept.specs.Agent.{Agent, agent_text, metric_part, spaced, system_text}
use Rattle.aws_intercept.specs.Metadata.{additional_text, api_text, framework_text, with_value}
use Rattle.aws_intercept.specs.Build.{family_text}

spaced_value : (before : List ℕ) (value : Option (List ℕ))
    → spaced (option_to_list (option_map (λ text. before ++ text) value)) ≡ with_value (codes " " ++ before) value
spaced_value before None = refl
spaced_value before (Some text) = simp append-nil

-- parts in six groups, where three have these texts
rest_in_turn : (a b c d e f : List (List ℕ)) (first fifth sixth : List ℕ) → spaced a ≡ first → spaced e ≡ fifth → spaced f ≡ sixth
    → spaced (a ++ (b ++ (c ++ (d ++ (e ++ f)))))
    ≡ first ++ (spaced b ++ (spaced c ++ (spaced d ++ (fifth ++ sixth))))
rest_in_turn a b c d e f first fifth sixth is_first is_fifth is_sixth = simp (flat_map-append, is_first, is_fifth, is_sixth)

-- the first five parts, and what follows them
front_in_turn : (core version api family os language : List ℕ) (rest : List (List ℕ))
    → join_by (λ part. part) (codes " ") ((codes "aws-sdk-rust/" ++ core) ∷ (codes "ua/" ++ version) ∷ api ∷ (codes "os/" ++ (family ++ os))
    ∷ (codes "lang/rust/" ++ language) ∷ rest)
    ≡ ((((codes "aws-sdk-rust/" ++ (core ++ (codes " ua/" ++ (version ++ (codes " " ++ (api ++ (codes " os/" ++ family)))))))
    ++ os) ++ codes " lang/rust/") ++ language) ++ spaced rest
front_in_turn core version api family os language rest = simp append_assoc

seven_in_turn : (s a b c d e f : List ℕ) → s ++ (a ++ (b ++ (c ++ (d ++ (e ++ f))))) ≡ (((((s ++ a) ++ b) ++ c) ++ d) ++ e) ++ f
seven_in_turn s a b c d e f = simp append_assoc

-- the text is what each agent has, and what is told besides, in turn
pub text_in_turn : (agent : Agent) → agent_text agent ≡
    ((((((system_text agent ++ with_value (codes " exec-env/") agent.execution_environment)
    ++ spaced (option_to_list (metric_part agent.metrics))) ++ spaced (map framework_text agent.frameworks))
    ++ spaced (map additional_text agent.additional_metadata)) ++ with_value (codes " app/") agent.app_name) ++ with_value (codes " md/") agent.build)
unfolding agent_text
text_in_turn agent =
    front_in_turn agent.core_version agent.agent_version (api_text agent.api) (family_text agent.os_family)
    (with_value (codes "/") agent.os_version) agent.language_version _
    ∙ ap (λ (rest : List ℕ). system_text agent ++ rest) (rest_in_turn
    (option_to_list (option_map (λ name. codes "exec-env/" ++ name) agent.execution_environment))
    (option_to_list (metric_part agent.metrics)) (map framework_text agent.frameworks) (map additional_text agent.additional_metadata)
    (option_to_list (option_map (λ name. codes "app/" ++ name) agent.app_name)) (option_to_list (option_map additional_text agent.build))
    _ _ _ (spaced_value (codes "exec-env/") agent.execution_environment) (spaced_value (codes "app/") agent.app_name)
    (spaced_value (codes "md/") agent.build))
    ∙ seven_in_turn (system_text agent) _ _ _ _ _ _
