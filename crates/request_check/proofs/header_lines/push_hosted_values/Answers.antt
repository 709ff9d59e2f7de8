use Rattle.std.proofs.Common.{sym, ◌∙◌}
use Rattle.sigv4.specs.Canonical.{given_headers}
use Rattle.request_check.proofs.HeaderLineLemmas.{host_alone, host_aside}
use Rattle.request_check.proofs.header_lines.push_hosted_values.Goals as goal

pub returns-then-eq : goal.returns-then-eq
returns-then-eq c = λ front holds.
    rw (c.in-Some.is, host_alone c.in-Some.host.now (given_headers c.args.headers.now) c.args.name.now (sym c.eq.ensures ∙ c.if-eq.true)) (c.push_str.ensures front holds)

pub returns-else-eq : goal.returns-else-eq
returns-else-eq c =
    rw (c.in-Some.is, host_aside c.in-Some.host.now (given_headers c.args.headers.now) c.args.name.now (sym c.eq.ensures ∙ c.if-eq.false)) c.push_values-else-eq.ensures
