-- Where a line is parted.
use Rattle.std.proofs.Common.{List, ℕ, IfNone, IfSome, Option, Some, None, Bor, MatchOption, drop, sym, lit<}
use Rattle.std.proofs.lemmas.List.{take-append-drop}
use Rattle.std.proofs.lemmas.Str.Pattern.{NoCharPasses-char, drop_at_char}
use Rattle.std.specs.Str.Pattern.{RFindsChar, SplitsAroundMatch}
use Rattle.tool_case_lines.specs.Line.{HasNoTab, IsParted, tab}

-- what `rsplit_once` promises of a tab
abbrev pub SplitsAtLastTab : List ℕ → Option (Bor (List ℕ) × Bor (List ℕ)) → Type 0
SplitsAtLastTab line r =
    MatchOption r (RFindsChar tab line None) (λ x. SplitsAroundMatch (RFindsChar tab) line x.0.now x.1.now)

pub parted : (line : List ℕ) (r : Option (Bor (List ℕ) × Bor (List ℕ))) → SplitsAtLastTab line r
    → IfSome r (λ parts. IsParted line parts.0.now parts.1.now)
parted line None h = tt
parted line (Some x) h = record {
  whole = rw (h.3, h.4, ← drop_at_char tab line h.0 h.1 h.2.1 (lit< tt)) (sym (take-append-drop h.0 line));
  last = rw h.4 (λ i within. NoCharPasses-char tab (drop h.1 line) i h.2.0 (lit< tt) within);
}

pub unparted : (line : List ℕ) (r : Option (Bor (List ℕ) × Bor (List ℕ))) → SplitsAtLastTab line r
    → IfNone r (HasNoTab line)
unparted line None h = λ i within. NoCharPasses-char tab line i h (lit< tt) within
unparted line (Some x) h = tt
