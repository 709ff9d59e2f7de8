use Rattle.std.proofs.Common.{◌≡◌, ◌++◌, ℕ, true, List, append-nil, refl, subst, sym, ap, ◌∙◌}
use Rattle.std.specs.Prelude.{bytes_eq}
use Rattle.smithy_core.specs.TextPairs.{lower, named_values}
use Rattle.sigv4.specs.Canonical.{given_headers}
use Rattle.sigv4.specs.Digest.{HoldsText}
use Rattle.sigv4.specs.Trim.{trim_all}
use Rattle.request_check.specs.HeaderLines.{before_listed}
use Rattle.request_check.proofs.HeaderLineLemmas.{one_more, values_joined}
use Rattle.request_check.proofs.header_lines.push_values.Goals as goal

pub loop-key-preserved-then-is_lower_of : goal.loop-key-preserved-then-is_lower_of
loop-key-preserved-then-is_lower_of c = λ front holds.
    let same : bytes_eq c.args.name.now (lower c.in-Some.key.now) ≡ true = sym c.is_lower_of.ensures ∙ c.if-is_lower_of.true in
    let so_far = c.loop-key.invariant front holds in
    let new = so_far.0 ++ (before_listed c.loop-key.is_first ++ trim_all c.in-Some.value.now) in (
      new,
      c.in_ok-push_value.ensures so_far.0 so_far.1,
      sym (one_more so_far.0 new c.args.name.now c.in-Some.key.now c.in-Some.value.now c.next.new.self c.loop-key.is_first same refl)
          ∙ rw c.in-Some.ensures.steps at so_far.2,
    )

pub returns : goal.returns
returns c = λ front holds.
    let so_far = c.loop-key.invariant front holds in
    let values = named_values (given_headers c.args.headers.now) c.args.name.now in
    let all = sym (append-nil so_far.0) ∙ rw c.in-None.ensures.steps.0 at so_far.2 ∙ ap (λ (joined : List ℕ). front ++ joined) (values_joined values) in
    subst (λ (text : List ℕ). HoldsText c.loop-key.text text) all so_far.1
