use Rattle.std.proofs.Common.{◌≡◌, ◌++◌, List, ℕ, ap, length, rules, ◌∙◌}
use Rattle.std.proofs.lemmas.Result.{err_from_is_err_and}
use Rattle.firuvaik_c.proofs.FrameLemmas.{prelude_fails, prelude_passes}
use Rattle.firuvaik_c.proofs.frames.prelude_length.Goals as goal

pub returns-in_err-_none : goal.returns-in_err-_none
returns-in_err-_none c =
    let exit = err_from_is_err_and c.from_residual-in_err-_none.result c.from_residual-in_err-_none.ensures.1 in
    let twelve : length c.args.prelude.now ≡ 12 = search rules in
    let same : c.push_slice.new.self.bytes ≡ c.args.prelude.now =
    c.in_ok-push_slice.ensures.bytes ∙ ap (λ (front : List ℕ). front ++ c.as_slice.result.now) c.new-buffer.ensures.bytes ∙ c.as_slice.ensures in
    rw (exit.1, exit.2) (prelude_fails c.args.prelude.now _ twelve (rw same at c.in_err-_none.ensures.first))

pub returns : goal.returns
returns c =
    let twelve : length c.args.prelude.now ≡ 12 = search rules in
    let same : c.push_slice.new.self.bytes ≡ c.args.prelude.now =
    c.in_ok-push_slice.ensures.bytes ∙ ap (λ (front : List ℕ). front ++ c.as_slice.result.now) c.new-buffer.ensures.bytes ∙ c.as_slice.ensures in
    prelude_passes c.args.prelude.now _ c.in_ok-_none._none _ twelve c.announced_length.ensures same c.in_ok-_none.ensures.first
