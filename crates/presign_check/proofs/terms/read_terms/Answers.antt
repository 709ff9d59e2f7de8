use Rattle.std.proofs.Common.{sym, ◌∙◌}
use Rattle.presign_check.specs.Parameters.{texts_read}
use Rattle.presign_check.specs.Terms.{algorithm_name}
use Rattle.presign_check.proofs.TermLemmas.{bad_expires, bad_signature, same_text}
use Rattle.presign_check.proofs.terms.read_terms.Goals as goal

pub returns-in_default-parse_u64 : goal.returns-in_default-parse_u64
returns-in_default-parse_u64 c =
    let same = same_text c.args.parameters.now.algorithm.now algorithm_name c.if-ne.ensures in
    let cut = rw (c.as_str.ensures.value, c.in_ok-scope.ensures) at c.in-Some-key_id_before.ensures in
    bad_expires c.args.region.now c.args.name.now (texts_read c.args.parameters.now) c.in-Some.at c.in-Some-key_id_before.key_id same c.in-Some.ensures cut
    (sym c.in_default-parse_u64.ensures)

pub returns-then-not-is_signature : goal.returns-then-not-is_signature
returns-then-not-is_signature c =
    let same = same_text c.args.parameters.now.algorithm.now algorithm_name c.if-ne.ensures in
    let cut = rw (c.as_str.ensures.value, c.in_ok-scope.ensures) at c.in-Some-key_id_before.ensures in
    bad_signature c.args.region.now c.args.name.now (texts_read c.args.parameters.now) c.in-Some.at c.in-Some-key_id_before.key_id c.in-Some-parse_u64.seconds same
    c.in-Some.ensures cut (sym c.in-Some-parse_u64.ensures) (sym c.is_signature.ensures ∙ c.if-not-is_signature.true)
