use Rattle.std.proofs.Common.{◌≡◌, ◌∙◌, ap, sym, subst, List, ℕ, [], ◌∷◌, ◌++◌, length, string_bytes}
use Rattle.std.specs.List.{position_or_len}
use Rattle.env_config.specs.Line.{equals_sign, is_equals}
use Rattle.env_config.specs.Texts.{one_pair, put}
use Rattle.env_config.proofs.OnePairLemmas.{joined_one}
use Rattle.env_config.proofs.texts.with_one.Goals as goal

pub returns-then-len-le-SHORT : goal.returns-then-len-le-SHORT
returns-then-len-le-SHORT c =
    let text = string_bytes c.args.text in
    let key = string_bytes c.args.key in
    let value = string_bytes c.args.value in
    let NoSign : List ℕ → Type 0 = λ k. position_or_len is_equals k ≡ length k in
    let Alone : List ℕ → List ℕ → Type 0 = λ t k. (v : List ℕ) → put (one_pair t) k v ≡ (k, v) ∷ [] in
    let alone : Alone text key = subst (Alone text) c.as_str-2.ensures.value (subst (λ (t : List ℕ). Alone t c.as_str-2.result.now) c.as_str.ensures.value (c.is_joinable.ensures.one c.if-is_joinable.true)) in
    joined_one (string_bytes c.in_ok-joined_pair.field-0) key value (subst NoSign c.as_str-2.ensures.value (c.is_joinable.ensures.no_sign c.if-is_joinable.true))
    (c.in_ok-joined_pair.ensures ∙ ap (λ (v : List ℕ). key ++ equals_sign ∷ v) c.as_str-then-len-le-SHORT.ensures.value)
    ∙ sym (alone value)
