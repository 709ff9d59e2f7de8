-- What contracts see of a text whose digest is made piece by piece.
use Rattle.std.specs.Prelude.{ℕ, List}
use Rattle.sha2.specs.Hashers.{Holds256}
use Rattle.sigv4.specs.declared.digest.TextDigest.{TextDigest}

-- the text that a digest has taken so far
abbrev pub HoldsText : TextDigest → List ℕ → Type 0
HoldsText digest text = Holds256 digest.hasher text
