use Rattle.std.proofs.Common.{◌≡◌, ◌-◌, List, ℕ, ap, length, arith, ◌∙◌}
use Rattle.std.proofs.lemmas.List.{length-drop}
use Rattle.std.proofs.lemmas.List.Elements.{All-from_get_or}
use Rattle.eventstream.specs.Read.{announced}
use Rattle.chain_watch.specs.Chain.{IsByte}
use Rattle.firuvaik_c.proofs.FrameLemmas.{found_described, message_found}
use Rattle.firuvaik_c.proofs.frames.found_parts.Goals as goal

pub places_of-requires : goal.places_of-requires
places_of-requires c =
    let small = All-from_get_or IsByte c.args.bytes.now 0 (λ i inside. let fits = c.type_inv.bytes i in omega arith) in
    let took = rw c.in_ok-rest.ensures at c.in_ok-message.ensures in
    let found = message_found c.args.bytes.now c.in_ok-message.message _ took.0 small in
    rw c.headers.ensures (omega (arith, found.long, found.short))

pub overflow_sub-result : goal.overflow_sub-result
overflow_sub-result c =
    let small = All-from_get_or IsByte c.args.bytes.now 0 (λ i inside. let fits = c.type_inv.bytes i in omega arith) in
    let took = rw c.in_ok-rest.ensures at c.in_ok-message.ensures in
    let found = message_found c.args.bytes.now c.in_ok-message.message _ took.0 small in
    let left : c.len.result ≡ length c.args.bytes.now - announced c.args.bytes.now =
    c.len.ensures.value ∙ ap (λ (rest : List ℕ). length rest) took.1 ∙ length-drop (announced c.args.bytes.now) c.args.bytes.now in
    omega (arith, left, found.long, found.there)

pub overflow_sub-result-2 : goal.overflow_sub-result-2
overflow_sub-result-2 c =
    let small = All-from_get_or IsByte c.args.bytes.now 0 (λ i inside. let fits = c.type_inv.bytes i in omega arith) in
    let took = rw c.in_ok-rest.ensures at c.in_ok-message.ensures in
    let found = message_found c.args.bytes.now c.in_ok-message.message _ took.0 small in
    let left : c.len.result ≡ length c.args.bytes.now - announced c.args.bytes.now =
    c.len.ensures.value ∙ ap (λ (rest : List ℕ). length rest) took.1 ∙ length-drop (announced c.args.bytes.now) c.args.bytes.now in
    let paid : c.len-payload_length.result ≡ length c.in_ok-message.message.payload = c.len-payload_length.ensures.value ∙ ap (λ (text : List ℕ). length text) c.payload.ensures in
    omega (arith, left, paid, found.long, found.there)

pub returns : goal.returns
returns c =
    let small = All-from_get_or IsByte c.args.bytes.now 0 (λ i inside. let fits = c.type_inv.bytes i in omega arith) in
    let took = rw c.in_ok-rest.ensures at c.in_ok-message.ensures in
    let found = message_found c.args.bytes.now c.in_ok-message.message _ took.0 small in
    let left : c.len.result ≡ length c.args.bytes.now - announced c.args.bytes.now =
    c.len.ensures.value ∙ ap (λ (rest : List ℕ). length rest) took.1 ∙ length-drop (announced c.args.bytes.now) c.args.bytes.now in
    let paid : c.len-payload_length.result ≡ length c.in_ok-message.message.payload = c.len-payload_length.ensures.value ∙ ap (λ (text : List ℕ). length text) c.payload.ensures in
    let places = rw c.headers.ensures at c.in_ok-headers.ensures in
    rw took.0 (found_described c.args.bytes.now c.in_ok-message.message c.len.result c.len-payload_length.result c.in_ok-headers.headers.items found left paid places)
