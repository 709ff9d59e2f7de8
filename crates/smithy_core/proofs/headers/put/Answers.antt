use Rattle.std.proofs.Common.{◌≡◌, ap, refl, rules, length}
use Rattle.std.specs.List.{insert}
use Rattle.std.specs.String.{string_bytes}
use Rattle.smithy_core.specs.TextPairs.{text_pair, text_pairs, first_place}
use Rattle.smithy_core.proofs.PairLemmas.{others, place_within, inserted_others}
use Rattle.smithy_core.proofs.headers.put.Goals as goal

pub insert-requires : goal.insert-requires
insert-requires c =
    let at : c.first_place-at.result ≡ first_place (text_pairs c.args.pairs.now.items) (string_bytes c.args.pair.0) = simp (c.first_place-at.ensures, c.as_slice.ensures.value, c.as_str.ensures.value) refl in
    let kept : c.drop_named.new.pairs.items ≡ others text_pair (string_bytes c.args.pair.0) c.args.pairs.now.items = simp (c.drop_named.ensures.items, c.as_str-2.ensures.value) refl in
    let within = place_within text_pair (string_bytes c.args.pair.0) c.args.pairs.now.items in
    let long = ap length kept in
    search (rules, at, within, long)

pub returns-clause-items : goal.returns-clause-items
returns-clause-items c =
    let at : c.first_place-at.result ≡ first_place (text_pairs c.args.pairs.now.items) (string_bytes c.args.pair.0) = simp (c.first_place-at.ensures, c.as_slice.ensures.value, c.as_str.ensures.value) refl in
    let kept : c.drop_named.new.pairs.items ≡ others text_pair (string_bytes c.args.pair.0) c.args.pairs.now.items = simp (c.drop_named.ensures.items, c.as_str-2.ensures.value) refl in
    let done : c.insert.new.self.items ≡ insert c.drop_named.new.pairs.items c.first_place-at.result c.args.pair = rw c.unwrap.ensures at c.insert.ensures.items in
    let same = inserted_others text_pair (string_bytes c.args.pair.0) c.args.pairs.now.items c.args.pair (string_bytes c.args.pair.1) refl in
    simp (done, kept, at) same
