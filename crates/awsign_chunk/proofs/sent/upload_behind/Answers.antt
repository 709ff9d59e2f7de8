use Rattle.std.proofs.Common.{[], Option, refl, subst}
use Rattle.awsign_words.specs.declared.words.Checksum.{Checksum}
use Rattle.awsign_chunk.specs.Sum.{HoldsSum}
use Rattle.awsign_chunk.proofs.sent.upload_behind.Goals as goal

pub returns : goal.returns
returns c = record {
  head = rw c.get.ensures at c.in_ok-head.ensures;
  long = refl;
  options = refl;
  is_signed = c.signs_chunks-is_signed.ensures;
  trailers = refl;
  over = c.in_ok-signer.ensures;
  sum = subst (λ (checksum : Option Checksum). HoldsSum c.new-sum.result checksum []) c.sent_checksum.ensures c.new-sum.ensures;
}
