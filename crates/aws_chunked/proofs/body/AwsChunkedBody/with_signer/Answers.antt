use Rattle.std.proofs.Common.{Some, refl}
use Rattle.aws_chunked.proofs.DueLemmas.{starts_sealed}
use Rattle.aws_chunked.proofs.body.AwsChunkedBody.with_signer.Goals as goal

pub returns-clause-due : goal.returns-clause-due
returns-clause-due g c = starts_sealed g.F.FrameSource g.G.SignChunk c.args.self (record c.args.self { chunks = record c.args.self.chunks { signer = Some c.args.signer } }) c.args.signer refl
