use Rattle.firuvaik.specs.Asked.{help, version}
use Rattle.firuvaik.proofs.help.text_asked.Goals as goal

pub returns : goal.returns
unfolding help version
returns c = c.text_asked.ensures
