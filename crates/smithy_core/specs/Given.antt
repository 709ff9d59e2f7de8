-- What calls of a clock gave.
use Rattle.std.specs.Prelude.{◌≡◌, List, [], ◌∷◌}
use Rattle.smithy_core.specs.Clock.{GainsMoments, GainsOne}
use Rattle.smithy_core.specs.Moment.{Instant}
use Rattle.smithy_core.specs.declared.outside.clock.Clock as Clock

-- a call gave the moment, which the list of what the clock gave gained
abbrev pub GivesOne : {C : Type 0} → Clock.Ghosts C → C → Instant → C → Type 0
GivesOne clock before moment now = clock.answers before moment now × GainsOne (clock.given before) (clock.given now) moment

-- calls gave these moments, one after the other
abbrev pub GivesEach : {C : Type 0} → Clock.Ghosts C → C → List Instant → C → Type 0
GivesEach clock before [] now = now ≡ before
GivesEach {C = C} clock before (moment ∷ moments) now = (next : C) × GivesOne clock before moment next × GivesEach clock next moments now

-- calls gave these moments, which the list of what the clock gave gained
abbrev pub Gives : {C : Type 0} → Clock.Ghosts C → C → List Instant → C → Type 0
Gives clock before moments now = GivesEach clock before moments now × GainsMoments (clock.given before) (clock.given now) moments
