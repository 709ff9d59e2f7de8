use Rattle.std.proofs.Common.{arith, refl, rules, string_bytes}
use Rattle.std.proofs.lemmas.Grind.{common_steps}
use Rattle.chunk_watch.proofs.StepLemmas.{step_chunk}
use Rattle.chunk_watch.proofs.watch.ChunkWatch.step.Goals as goal

pub returns-in-Some : goal.returns-in-Some
returns-in-Some c =
    let hands = rw c.in-Some.is at c.in_ok-own-in-Chunk.ensures.hands in
    let one = step_chunk c.self.inside.signer c.self.inside.limits c.self.inside.declared c.self.inside.taken c.args.out.now.items c.self.inside.phase c.self.inside.place (string_bytes c.self.inside.signature)
    c.self.inside.left c.in-Chunks.is c.self.inside.limits.chunk c.as_slice-2.result.now c.as_str-before.result.now refl c.as_slice-2.ensures c.as_str-before.ensures.value
    c.in-Chunk.signature.now c.in-Chunk.bytes.now (string_bytes c.in-Some.own) c.advance.new.self c.hand_out.new.out.items c.in-Chunk.len c.next_place-self-inside.result c.count_after-self-inside.result
    c.in-Chunk.ensures hands.0 hands.1 c.next_place-self-inside.ensures c.advance.ensures hands.2 c.count_after-self-inside.ensures in
    first_of (search (rules, one), grind (arith, common_steps, one))
