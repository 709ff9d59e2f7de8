use Rattle.env_config.specs.Files.{chosen_places}
use Rattle.signed_stream.proofs.SourceLemmas.{named_grows}
use Rattle.signed_stream.proofs.sources.with_named.Goals as goal

pub loop-file-preserved : goal.loop-file-preserved
loop-file-preserved c =
    named_grows (chosen_places c.args.builder) c.loop-file.builder c.in_ok-builder.builder c.args.named.now c.loop-file.file-index _ c.loop-file-test.true c.loop-file.invariant
    (rw c.in_ok-from_str.ensures.ok at c.in_ok-builder.ensures.added) c.in_ok-builder.ensures.defaults
