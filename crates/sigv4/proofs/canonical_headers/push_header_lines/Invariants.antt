use Rattle.std.proofs.Common.{◌≡◌, ◌++◌, drop}
use Rattle.std.specs.Prelude.{option_copied, string_bytes}
use Rattle.std.specs.List.{flat_map}
use Rattle.sigv4.specs.CanonicalHeaders.{header_pairs, header_texts, pair_line}
use Rattle.sigv4.proofs.GatheredLemmas.{lines_to_come}
use Rattle.sigv4.proofs.canonical_headers.push_header_lines.Given as goal

-- what was written and the lines of the headers to come are all of them
abbrev pub invariant-loop-name : goal.invariant-loop-name
invariant-loop-name l =
    string_bytes l.text ++ lines_to_come (option_copied l.last) (header_pairs (drop l.name-index l.headers)) ≡ string_bytes l.fn.text ++ flat_map pair_line (header_texts l.headers)
