-- A run that says how it ended: the end stays, or that memory ran out takes its place.
use Rattle.std.proofs.Common.{◌≡◌, ℕ, ◌⊎◌, inl, inr, Bool, true, false, List, Option, refl, sym, ◌∙◌}
use Rattle.smithy_core.proofs.GainLemmas.{prefix_at_start, prefix_from_whole}
use Rattle.smithy_core.specs.Outside.{CountsFault}
use Rattle.env_config.specs.Files.{Place}
use Rattle.signed_stream.specs.Command.{Command}
use Rattle.signed_stream.specs.Plan.{FilesRead, GainsAsPlanned, GoesAsPlanned, Plan, Supplied, stops, writes}
use Rattle.signed_stream.specs.Running.{CountsReads, CountsWrites, EndsAsAsked, KeepsDisk, KeepsOutput, RunsAsPlanned, When, command_plan}
use Rattle.signed_stream.specs.Status.{Ending, RunFault, done, no_memory, output_fault, read_fault, refused}
use Rattle.signed_stream.proofs.RunLemmas.{asked_no_memory, goes_no_memory}

-- the answer is the end, or that memory ran out
abbrev pub IsSaid : Ending → Ending → Type 0
IsSaid end answer = (answer ≡ end) ⊎ (answer ≡ no_memory)

pub said_asked : (command : Command) (end answer : Ending) → EndsAsAsked command end → IsSaid end answer → EndsAsAsked command answer
said_asked command end answer fits (inl is) = rw is fits
said_asked command end answer fits (inr is) = rw is (asked_no_memory command)

-- what was written before memory ran out is a front of the text
cut_short : (plan : Plan) (end : Ending) (before now : Option (List ℕ)) → GainsAsPlanned plan end before now → GainsAsPlanned plan no_memory before now
cut_short (stops early) end before now gains = gains
cut_short (writes text whole) done before now gains = prefix_from_whole before now text gains
cut_short (writes text whole) (refused fault) before now gains = prefix_from_whole before now text gains
cut_short (writes text whole) output_fault before now gains = gains
cut_short (writes text whole) no_memory before now gains = gains
cut_short (writes text whole) other before now gains = rw gains (prefix_at_start before text)

-- a run whose end is said goes as it did
pub said_goes : (plan : Plan) (end answer : Ending) (before now : Option (List ℕ)) → GoesAsPlanned plan end before now → IsSaid end answer → GoesAsPlanned plan answer before now
said_goes plan end answer before now goes (inl is) = rw is goes
said_goes plan end answer before now goes (inr is) =
    rw is (record { ends = (goes_no_memory plan before).ends; gains = cut_short plan end before now goes.gains })

pub said_runs : (gave : List Place → FilesRead → Type 0) (env : List (List ℕ × List ℕ)) (command : Command) (bytes : List ℕ) (given : Supplied) (end answer : Ending) (before now : Option (List ℕ))
    → RunsAsPlanned gave env command bytes given end before now → IsSaid end answer → RunsAsPlanned gave env command bytes given answer before now
said_runs gave env command bytes given end answer before now runs said =
    record { supplied = runs.supplied; goes = said_goes (command_plan env command bytes given) end answer before now runs.goes said; needed = runs.needed }

pub said_keeps : (late : RunFault → Bool) (end answer : Ending) (before now : Option (List ℕ)) → KeepsOutput late end before now → IsSaid end answer → KeepsOutput late answer before now
said_keeps late end answer before now keeps (inl is) = rw is keeps
said_keeps late end answer before now keeps (inr is) = rw is tt

-- an answer other than that memory ran out is the end itself
pub said_is : (end answer known : Ending) → IsSaid end answer → answer ≡ known → (known ≡ no_memory → ⊥) → end ≡ known
said_is end answer known (inl is) reached other = sym is ∙ reached
said_is end answer known (inr is) reached other = absurd (other (sym reached ∙ is))

-- what holds where the run is done holds where it says so
pub said_when : (test : Bool) (end answer : Ending) (P : Type 0) → When test (end ≡ done → P) → IsSaid end answer → When test (answer ≡ done → P)
said_when true end answer P ends said = λ is. ends (said_is end answer done said is (λ e. cc))
said_when false end answer P ends said = tt

-- what the disk keeps at the end it keeps at what is said
pub said_disk : {D : Type 0} (end answer : Ending) (before now : D) → KeepsDisk end before now → IsSaid end answer → KeepsDisk answer before now
said_disk end answer before now keeps (inl is) = rw is keeps
said_disk end answer before now keeps (inr is) = rw is tt

-- ## The counts

pub said_reads : (end answer : Ending) (before now : ℕ) → IsSaid end answer → CountsFault (end ≡ read_fault) before now → CountsReads answer before now
said_reads end answer before now (inl is) counts = rw is (by_end end counts)
  where
    by_end : (end : Ending) → CountsFault (end ≡ read_fault) before now → CountsReads end before now
    by_end read_fault counts = counts.rose refl
    by_end no_memory counts = counts.grew
    by_end other counts = counts.stayed (λ e. cc)
said_reads end answer before now (inr is) counts = rw is counts.grew

pub said_writes : (end answer : Ending) (before now : ℕ) → IsSaid end answer → CountsFault (end ≡ output_fault) before now → CountsWrites answer before now
said_writes end answer before now (inl is) counts = rw is (by_end end counts)
  where
    by_end : (end : Ending) → CountsFault (end ≡ output_fault) before now → CountsWrites end before now
    by_end output_fault counts = counts.rose refl
    by_end no_memory counts = counts.grew
    by_end other counts = counts.stayed (λ e. cc)
said_writes end answer before now (inr is) counts = rw is counts.grew
