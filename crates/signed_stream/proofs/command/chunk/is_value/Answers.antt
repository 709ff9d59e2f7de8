use Rattle.sigv4.proofs.RefusalLemmas.{decides-value}
use Rattle.signed_stream.proofs.command.chunk.is_value.Goals as goal

pub returns : goal.returns
returns c = decides-value c.args.text.now _ c.is_header_value.ensures
