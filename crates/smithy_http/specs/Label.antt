-- Labels of a path.
use Rattle.std.specs.Prelude.{ℕ, Bool}
use Rattle.smithy_http.specs.Escape.{base_set, greedy_set}
use Rattle.smithy_http.specs.declared.label.EncodingStrategy.{EncodingStrategy}
use Rattle.smithy_http.specs.declared.label.EncodingStrategy.TheVariants.{Default, Greedy}

-- the bytes that a label escapes
abbrev pub label_set : EncodingStrategy → ℕ → Bool
label_set Default byte = base_set byte
label_set Greedy byte = greedy_set byte
