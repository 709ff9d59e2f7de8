-- The settings that are printed are those that a request is signed with.
use Rattle.std.specs.Prelude.{ℕ, List, Result, Ok, Err}
use Rattle.aws_settings.specs.Choice.{ChosenSettings, Lack}
use Rattle.awsign_words.specs.Words.{OptionValues}
use Rattle.awsign_settings.specs.Own.{Own}
use Rattle.awsign_settings.specs.Settings.{given_choice, used_settings}

-- what there is to sign with by what each profile file has by itself, or what lacks
abbrev pub printed_choice : OptionValues → List (List ℕ × List ℕ) → Result (List Own) Lack → Result ChosenSettings Lack
printed_choice options env (Ok owns) = given_choice (used_settings options env owns)
printed_choice options env (Err lack) = Err lack
