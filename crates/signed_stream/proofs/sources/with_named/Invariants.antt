use Rattle.std.proofs.Common.{◌≡◌, ◌++◌, map, take}
use Rattle.env_config.specs.Files.{chosen_places}
use Rattle.signed_stream.specs.ProfileOptions.{place_of}
use Rattle.signed_stream.proofs.sources.with_named.Given as goal

-- the builder has the files that passed behind its own
abbrev pub invariant-loop-file : goal.invariant-loop-file
invariant-loop-file l = chosen_places l.builder ≡ chosen_places l.fn.builder ++ map place_of (take l.file-index l.named)
