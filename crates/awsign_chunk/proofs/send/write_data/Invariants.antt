use Rattle.std.proofs.Common.{◌≡◌, ◌+◌, ℕ, List, [], Option, if◌then◌else◌}
use Rattle.std.specs.Prelude.{IsTrue}
use Rattle.smithy_core.specs.Civil.{is_in_years}
use Rattle.smithy_core.specs.Moment.{Instant}
use Rattle.eventstream.specs.Key.{Signer}
use Rattle.sigv4.specs.ChunkTold.{signs_over}
use Rattle.aws_auth.specs.ChunkSigner.{chunk_told}
use Rattle.awsign_words.specs.declared.words.Checksum.{Checksum}
use Rattle.awsign_chunk.specs.Sending.{HasCome}
use Rattle.awsign_chunk.specs.Sum.{HoldsSum}
use Rattle.awsign_chunk.proofs.send.write_data.Given as goal

-- what was written so far, and then the text of what is left, from the present signature on, is the text of all
abbrev pub invariant-chunks : goal.invariant-chunks
invariant-chunks g l =
    let source = g.S.ByteSource in
    let sink = g.B.ByteSink in
    record {
      comes : (first : List ℕ) (who : Signer) (t : Instant) (checksum : Option Checksum) → chunk_told l.fn.running.signer ≡ signs_over first who t
          → IsTrue (is_in_years t) → HoldsSum l.fn.running.sum checksum []
          → HasCome l.plan.is_signed who t l.plan.options.chunk_size l.plan.length checksum first (source.left l.fn.content) (source.left l.content) l.more l.left
          (chunk_told l.running.signer) l.running.sum (sink.held l.fn.body) (sink.held l.body);
      read : source.faults l.content ≡ source.faults l.fn.content;
      wrote : sink.faults l.body ≡ sink.faults l.fn.body;
    }

abbrev pub decreases-chunks : goal.decreases-chunks
decreases-chunks g l = l.left + (if l.more then 1 else 0)
