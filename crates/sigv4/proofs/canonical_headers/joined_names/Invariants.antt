use Rattle.std.proofs.Common.{◌≡◌, ◌++◌, drop, map}
use Rattle.std.specs.Prelude.{option_copied, string_bytes}
use Rattle.sigv4.specs.Canonical.{joined_names}
use Rattle.sigv4.specs.CanonicalHeaders.{header_pairs, header_texts}
use Rattle.sigv4.specs.Query.{Pair}
use Rattle.sigv4.proofs.GatheredLemmas.{names_to_come}
use Rattle.sigv4.proofs.canonical_headers.joined_names.Given as goal

-- what was written and the names to come are all of them
abbrev pub invariant-loop-name : goal.invariant-loop-name
invariant-loop-name l =
    string_bytes l.names ++ names_to_come (option_copied l.last) (header_pairs (drop l.name-index l.headers)) ≡ joined_names (map (λ (header : Pair). header.0) (header_texts l.headers))
