-- What went out and came, and the moments, call after call.
use Rattle.std.proofs.Common.{List, [], ◌∷◌, ◌++◌, Option, Some, None, refl, sym, ap, subst, ◌∙◌}
use Rattle.std.proofs.lemmas.List.{append-nil, append_assoc}
use Rattle.smithy_core.specs.Given.{Gives, GivesEach}
use Rattle.smithy_core.specs.Moment.{Instant}
use Rattle.smithy_core.specs.declared.outside.clock.Clock as Clock
use Rattle.smithy_core.proofs.GivenLemmas.{each_given}
use Rattle.operation_run.specs.Transport.{Appends}

module _ {A : Type 0} where
  -- nothing more
  pub appends_none : (held : Option (List A)) → Appends held held []
  appends_none None = refl
  appends_none (Some held) = ap Some (sym (append-nil held))

  -- more after more
  pub appends_twice : (before middle now : Option (List A)) (first later : List A) → Appends before middle first → Appends middle now later → Appends before now (first ++ later)
  appends_twice None middle now first later a b = let held : Appends None now later = rw a at b in held
  appends_twice (Some before) middle now first later a b =
      let held : Appends (Some (before ++ first)) now later = rw a at b in held ∙ ap Some (append_assoc before first later)

module _ {C : Type 0} (clock : Clock.Ghosts C) where
  -- moments that were given in turn
  each_twice : (before middle now : C) (first later : List Instant) → GivesEach clock before first middle → GivesEach clock middle later now → GivesEach clock before (first ++ later) now
  each_twice before middle now [] later is each = subst (λ c. GivesEach clock c later now) is each
  each_twice before middle now (moment ∷ first) later (next, one, given) each = (next, one, each_twice next middle now first later given each)

  pub gives_twice : (before middle now : C) (first later : List Instant) → Gives clock before first middle → Gives clock middle later now → Gives clock before (first ++ later) now
  gives_twice before middle now first later a b = each_given clock before now (first ++ later) (each_twice before middle now first later a.0 b.0)
