-- The moments that a clock gave, call by call.
use Rattle.std.proofs.Common.{◌≡◌, List, [], ◌∷◌, ◌++◌, length, replicate, Option, Some, None, refl, sym, ap, subst, ◌∙◌}
use Rattle.std.proofs.lemmas.List.{append-nil, append_assoc}
use Rattle.smithy_core.specs.Clock.{ClockState, GainsMoments, GivesNext}
use Rattle.smithy_core.specs.Given.{Gives, GivesEach, GivesOne}
use Rattle.smithy_core.specs.Moment.{Instant}
use Rattle.smithy_core.specs.declared.outside.clock.Clock as Clock

-- moments that were given in turn were given
joined : (before middle now : Option (List Instant)) (first : List Instant) (later : List Instant)
    → GainsMoments before middle first → GainsMoments middle now later → GainsMoments before now (first ++ later)
joined before middle None first later a b = _
joined before None (Some now) first later a b = absurd b
joined None (Some middle) (Some now) first later a b = absurd a
joined (Some before) (Some middle) (Some now) first later a b = b ∙ ap (λ (m : List Instant). m ++ later) a ∙ append_assoc before first later

-- a list that stays gains none
gains_none : (held : Option (List Instant)) → GainsMoments held held []
gains_none None = _
gains_none (Some held) = sym (append-nil held)

module _ {C : Type 0} (clock : Clock.Ghosts C) where
  -- the list of what the clock gave gained the moments of its calls
  given_each : (before now : C) (moments : List Instant) → GivesEach clock before moments now → GainsMoments (clock.given before) (clock.given now) moments
  given_each before now [] is = subst (λ c. GainsMoments (clock.given before) (clock.given c) []) (sym is) (gains_none (clock.given before))
  given_each before now (moment ∷ moments) (next, one, each) =
      joined (clock.given before) (clock.given next) (clock.given now) (moment ∷ []) moments one.1 (given_each next now moments each)

  -- so the clock gave them
  pub each_given : (before now : C) (moments : List Instant) → GivesEach clock before moments now → Gives clock before moments now
  each_given before now moments each = (each, given_each before now moments each)

  -- a clock that isn't asked gives none
  pub given_none : (before : C) → Gives clock before [] before
  given_none before = (refl, gains_none (clock.given before))

  -- one call more
  pub given_more : (before middle now : C) (moments : List Instant) (moment : Instant) → GivesEach clock before moments middle → GivesOne clock middle moment now
      → GivesEach clock before (moments ++ moment ∷ []) now
  given_more before middle now [] moment is one = (now, subst (λ c. GivesOne clock c moment now) is one, refl)
  given_more before middle now (first ∷ moments) moment (next, gives, each) one = (next, gives, given_more next middle now moments moment each one)

-- a clock that lists no moment gives the last one again and again
pub given_last : (clock : Clock.Ghosts ClockState) → ((before : ClockState) (moment : Instant) (now : ClockState) → clock.answers before moment now → GivesNext before moment now)
    → (before now : ClockState) (moments : List Instant) → before.moments ≡ [] → GivesEach clock before moments now → moments ≡ replicate (length moments) before.last
given_last clock told before now [] none each = refl
given_last clock told before now (moment ∷ moments) none (next, one, each) =
    let gives : GivesNext before moment next = told before moment next one.0 in
    let is : moment ≡ before.last = cc in
    let stays : next.moments ≡ [] = cc in
    let last : next.last ≡ before.last = cc in
    let later : moments ≡ replicate (length moments) next.last = given_last clock told next now moments stays each in cc
