use Rattle.std.proofs.Common.{◌∙◌, ap, subst, refl, List, ℕ, String, Global, slice_set}
use Rattle.std.specs.Prelude.{Ok, Err}
use Rattle.std.specs.List.{insert}
use Rattle.std.specs.String.{string_bytes}
use Rattle.env_config.specs.Texts.{FindsPlace, pairs_of}
use Rattle.env_config.proofs.PlaceLemmas.{few_inserted, few_replaced}
use Rattle.env_config.proofs.few_pairs.put_among_few.Goals as goal

pub returns-in-Ok-clause-ok : goal.returns-in-Ok-clause-ok
returns-in-Ok-clause-ok c =
    let items = c.args.pairs.now.items in
    let At : List (String Global × String Global) → Type 0 = λ xs. FindsPlace (pairs_of xs) (string_bytes c.args.key) (Ok c.in-Ok.at) in
    let Of : List ℕ → Type 0 = λ key. FindsPlace (pairs_of c.as_slice.result.now) key (Ok c.in-Ok.at) in
    few_replaced items (slice_set items c.in-Ok.at (c.args.key, c.args.value)) c.args.key c.args.value c.in-Ok.at
    (subst At c.as_slice.ensures.value (subst Of c.as_str.ensures.value c.in-Ok.ensures)) refl

pub returns-in_ok-insert-in-Err-clause-ok : goal.returns-in_ok-insert-in-Err-clause-ok
returns-in_ok-insert-in-Err-clause-ok c =
    let items = c.args.pairs.now.items in
    let At : List (String Global × String Global) → Type 0 = λ xs. FindsPlace (pairs_of xs) (string_bytes c.args.key) (Err c.in-Err.at) in
    let Of : List ℕ → Type 0 = λ key. FindsPlace (pairs_of c.as_slice.result.now) key (Err c.in-Err.at) in
    few_inserted items c.insert.new.self.items c.args.key c.args.value c.in-Err.at
    (subst At c.as_slice.ensures.value (subst Of c.as_str.ensures.value c.in-Err.ensures))
    (c.in_ok-insert-in-Err.ensures.items ∙ ap (λ (xs : List (String Global × String Global)). insert xs c.in-Err.at (c.args.key, c.args.value)) c.reserve_exact.ensures.items)
