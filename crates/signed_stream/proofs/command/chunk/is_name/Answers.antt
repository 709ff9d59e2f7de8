use Rattle.sigv4.proofs.RefusalLemmas.{decides-name}
use Rattle.signed_stream.proofs.command.chunk.is_name.Goals as goal

pub returns : goal.returns
returns c = decides-name c.args.text.now _ c.is_header_name.ensures
