-- A command that was read.
use Rattle.std.proofs.Common.{◌≡◌, true, refl}
use Rattle.signed_stream.specs.Options.{input_commanded}
use Rattle.signed_stream.specs.Running.{EndsAsAsked, IsOfCommand, reads_input}
use Rattle.signed_stream.specs.Status.{Ending}
use Rattle.signed_stream.specs.declared.command.InputCommand.{InputCommand}
use Rattle.signed_stream.specs.declared.command.InputCommand.TheVariants.{Stream}
use Rattle.signed_stream.proofs.RunLemmas.{of_command}

pub reads : (command : InputCommand) → reads_input (input_commanded command) ≡ true
reads (Stream words) = refl
reads other = refl

-- it ends for no word
pub asks_command : (command : InputCommand) (end : Ending) → IsOfCommand end → EndsAsAsked (input_commanded command) end
asks_command command end of = of_command (input_commanded command) end (reads command) of
