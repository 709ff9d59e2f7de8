use Rattle.std.proofs.Common.{rules, ℕ, List, length, ap, sym, ◌∙◌, inr}
use Rattle.event_io.proofs.SignedEventLemmas.{left_over}
use Rattle.event_io.proofs.signed_event.held_message.Goals as goal

pub returns-else-len : goal.returns-else-len
returns-else-len c =
    let whole = c.len.ensures.value ∙ ap (λ (bytes : List ℕ). length bytes) c.payload.ensures in
    inr (inr (
      c.in_ok-held.held,
      search rules,
      left_over _ _ _ c.in_ok-held.ensures.len c.in_ok-held.ensures.there (λ same. c.if-len.false (same ∙ sym whole)),
      search rules,
    ))
