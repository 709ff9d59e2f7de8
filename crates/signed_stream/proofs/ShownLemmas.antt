-- A text is escaped as the definition says: the set of the code is that of the hidden bytes.
use Rattle.std.proofs.Common.{◌≡◌, ℕ, ◌≤◌, List, true, refl, arith}
use Rattle.std.proofs.lemmas.Bool.Decides.{nat_tests}
use Rattle.percent_encoding.specs.Percent.{percent_encode}
use Rattle.smithy_http.specs.Escape.{escaped}
use Rattle.smithy_http.proofs.EscapeLemmas.{agrees, same_text}
use Rattle.signed_stream.specs.Shown.{is_hidden}
use Rattle.signed_stream.specs.declared.shown.TheConstants.{HIDDEN}

past_ascii : (byte : ℕ) → 128 ≤ byte → is_hidden byte ≡ true
past_ascii byte past = grind (arith, nat_tests)

pub by_hidden : (text : List ℕ) → percent_encode HIDDEN text ≡ escaped is_hidden text
by_hidden text = same_text HIDDEN is_hidden (agrees HIDDEN is_hidden refl past_ascii) text
