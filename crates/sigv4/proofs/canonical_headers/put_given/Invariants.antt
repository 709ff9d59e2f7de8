use Rattle.std.proofs.Common.{◌≡◌, ◌++◌, ℕ, List}
use Rattle.smithy_core.specs.TextPairs.{AreLower, named_values}
use Rattle.sigv4.specs.Canonical.{given_headers}
use Rattle.sigv4.specs.CanonicalHeaders.{header_pairs, signed_values}
use Rattle.sigv4.specs.Settings.{settings_of}
use Rattle.sigv4.proofs.canonical_headers.put_given.Given as goal

-- the names to come are in lower case, and the values that are there and those to come are all of them
abbrev pub invariant-loop-name : goal.invariant-loop-name
invariant-loop-name l = record {
  lower : AreLower l.name-iterator;
  values : (q : List ℕ) →
      named_values (header_pairs l.signed.items) q ++ signed_values (settings_of l.settings) (given_headers l.name-iterator) q
      ≡ signed_values (settings_of l.settings) (given_headers l.headers) q;
}
