use Rattle.presigned.specs.PresignedTexts.{presigned_help, presigned_version}
use Rattle.presigned.proofs.help.text_asked.Goals as goal

pub returns : goal.returns
unfolding presigned_help presigned_version
returns c = c.text_asked.ensures
