use Rattle.std.proofs.Common.{◌≡◌, ◌+◌, ◌-◌, List, ℕ, ap, refl, length, arith, ◌∙◌}
use Rattle.std.proofs.lemmas.List.Elements.{All-from_get_or}
use Rattle.eventstream.specs.Frame.{block}
use Rattle.chain_watch.specs.Chain.{IsByte}
use Rattle.firuvaik_c.specs.Frames.{piece_at}
use Rattle.firuvaik_c.proofs.FrameLemmas.{message_found}
use Rattle.firuvaik_c.proofs.WatchLemmas.{read_announced}
use Rattle.firuvaik_c.proofs.watch.parts_of.Goals as goal

pub overflow_sub-result : goal.overflow_sub-result
overflow_sub-result c =
    let small = All-from_get_or IsByte c.args.frame.now 0 (λ i inside. let fits = c.type_inv.frame i in omega arith) in
    let found = message_found c.args.frame.now c.args.message.now _ c.requires small in
    omega (arith, read_announced _ _ _ c.requires, found.long)

pub overflow_sub-result-2 : goal.overflow_sub-result-2
overflow_sub-result-2 c =
    let small = All-from_get_or IsByte c.args.frame.now 0 (λ i inside. let fits = c.type_inv.frame i in omega arith) in
    let found = message_found c.args.frame.now c.args.message.now _ c.requires small in
    let paid : c.len-payload_length.result ≡ length c.args.message.now.payload = c.len-payload_length.ensures.value ∙ ap (λ (text : List ℕ). length text) c.payload.ensures in
    omega (arith, paid, read_announced _ _ _ c.requires, found.long)

pub returns : goal.returns
returns c =
    let small = All-from_get_or IsByte c.args.frame.now 0 (λ i inside. let fits = c.type_inv.frame i in omega arith) in
    let found = message_found c.args.frame.now c.args.message.now _ c.requires small in
    let paid : c.len-payload_length.result ≡ length c.args.message.now.payload = c.len-payload_length.ensures.value ∙ ap (λ (text : List ℕ). length text) c.payload.ensures in
    let start : length c.args.frame.now - 4 - c.len-payload_length.result ≡ 12 + length (block c.args.message.now.headers) =
    omega (arith, paid, read_announced _ _ _ c.requires, found.long) in
    rw c.requires (
      ap (λ (place : ℕ). piece_at place c.len-payload_length.result c.args.frame.now) start
          ∙ ap (λ (len : ℕ). piece_at (12 + length (block c.args.message.now.headers)) len c.args.frame.now) paid ∙ found.payload,
      refl,
    )
