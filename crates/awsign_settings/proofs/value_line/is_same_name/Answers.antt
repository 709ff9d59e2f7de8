use Rattle.smithy_core.specs.TextPairs.{lower}
use Rattle.sigv4.proofs.RefusalLemmas.{decides-text}
use Rattle.awsign_settings.proofs.value_line.is_same_name.Goals as goal

pub returns : goal.returns
returns c = decides-text (lower c.args.name.now) (lower c.args.other.now) _ c.eq_ignore_ascii_case.ensures.test
