use Rattle.aws_signing.proofs.UploadLemmas.{in_years}
use Rattle.aws_signing.proofs.signer.Signer.pieces_after.Goals as goal

pub all_pieces-requires : goal.all_pieces-requires
all_pieces-requires c = (c.in_ok-body.ensures _ _ _ c.in_ok-signer.ensures (in_years c.args.at c.requires.years)).0
