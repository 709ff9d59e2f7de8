-- What the readers of the words answer.
use Rattle.std.specs.Prelude.{◌≡◌, option_map, Result, Ok, Err, string_bytes}
use Rattle.std.specs.Option.{option_copied}
use Rattle.signed_stream.specs.ChunkWords.{chunk_wanted}
use Rattle.signed_stream.specs.Command.{CheckGiven, CheckWanted, Command, bad_word, check_record, generate, write_chunks, stream, show_settings, StreamGiven, Wanted}
use Rattle.signed_stream.specs.ProfileOptions.{profile_wanted}
use Rattle.signed_stream.specs.declared.command.Command.{Command as Commanded}
use Rattle.signed_stream.specs.declared.command.Command.TheVariants.{Generate, OfInput}
use Rattle.signed_stream.specs.declared.command.InputCommand.{InputCommand}
use Rattle.signed_stream.specs.declared.command.InputCommand.TheVariants.{Chunk, Check, Stream, Settings}
use Rattle.signed_stream.specs.declared.command.chunk.ChunkWords.{ChunkWords}
use Rattle.signed_stream.specs.declared.command.generator.GeneratorWords.{GeneratorWords}
use Rattle.job_text.specs.declared.words.WordsFault.{WordsFault}
use Rattle.job_text.specs.declared.words.WordsFault.TheVariants.{BadWord, NoMemory}
use Rattle.signed_stream.specs.declared.command.stream.StreamWords.{StreamWords}
use Rattle.signed_stream.specs.declared.command.stream.GivenStream.{GivenStream}
use Rattle.signed_stream.specs.declared.command.check.CheckWords.{CheckWords}
use Rattle.signed_stream.specs.declared.command.check.GivenCheck.{GivenCheck}
use Rattle.signed_stream.specs.declared.command.profile.ProfileOptions.{ProfileOptions}
use Rattle.signed_stream.specs.declared.streaming.StreamOptions.{StreamOptions}

-- what the words ask `stream` for
abbrev pub wanted_of : StreamWords → Wanted
wanted_of words = record {
  name = words.name.now;
  at = words.at;
  signing = words.signing;
  token_name = option_copied words.token_name;
  skew_millis = words.skew_millis;
  form = words.form;
  profile = profile_wanted words.profile;
}

-- the options are what the words ask of a stream
pub record IsOptionsOf (words : StreamWords) (options : StreamOptions) : Type 0 where
  pub name : string_bytes options.name ≡ words.name.now
  pub service_id : option_map string_bytes options.service_id ≡ option_copied words.profile.service_id
  pub signing : options.signing ≡ words.signing
  pub token_name : option_map string_bytes options.token_name ≡ option_copied words.token_name
  pub skew_millis : options.skew_millis ≡ words.skew_millis

-- what the words ask `check` for
abbrev pub check_wanted : CheckWords → CheckWanted
check_wanted words = record { name = words.name.now; profile = profile_wanted words.profile }

-- the command that is asked for of the input
abbrev pub input_commanded : InputCommand → Command
input_commanded (Stream words) = stream (wanted_of words)
input_commanded (Settings profile) = show_settings (profile_wanted profile)
input_commanded (Check words) = check_record (check_wanted words)
input_commanded (Chunk words) = write_chunks (chunk_wanted words)

-- the command that is asked for
abbrev pub commanded : Commanded → Command
commanded (Generate words) = generate words.seed words.count
commanded (OfInput command) = input_commanded command

-- the fault is why the words are no command, unless memory ran out
abbrev pub GivesWordsFault : Command → WordsFault → Type 0
GivesWordsFault command (BadWord place) = command ≡ bad_word place
GivesWordsFault command NoMemory = Unit {0}

-- the command is the one that the words spell, or they spell none; or memory ran out
abbrev pub ReadsWords : Command → Result Commanded WordsFault → Type 0
ReadsWords command (Ok words) = command ≡ commanded words
ReadsWords command (Err fault) = GivesWordsFault command fault

-- the words of `stream`, likewise
abbrev pub ReadsStream : Command → Result StreamWords WordsFault → Type 0
ReadsStream command (Ok words) = command ≡ stream (wanted_of words)
ReadsStream command (Err fault) = GivesWordsFault command fault

-- the words of `check`, likewise
abbrev pub ReadsCheck : Command → Result CheckWords WordsFault → Type 0
ReadsCheck command (Ok words) = command ≡ check_record (check_wanted words)
ReadsCheck command (Err fault) = GivesWordsFault command fault

-- the words of `gen`, likewise
abbrev pub ReadsGenerator : Command → Result GeneratorWords WordsFault → Type 0
ReadsGenerator command (Ok words) = command ≡ generate words.seed words.count
ReadsGenerator command (Err fault) = GivesWordsFault command fault

-- the words of `settings`, likewise
abbrev pub ReadsProfile : Command → Result ProfileOptions WordsFault → Type 0
ReadsProfile command (Ok profile) = command ≡ show_settings (profile_wanted profile)
ReadsProfile command (Err fault) = GivesWordsFault command fault

-- what the options of `stream` so far gave
abbrev pub stream_given : GivenStream → StreamGiven
stream_given given = record {
  name = option_copied given.name;
  at = given.at;
  signing = given.signing;
  token_name = option_copied given.token_name;
  skew_millis = given.skew_millis;
  form = given.form;
  profile = profile_wanted given.profile;
}

-- what the options of `check` so far gave
abbrev pub check_given : GivenCheck → CheckGiven
check_given given = record { name = option_copied given.name; profile = profile_wanted given.profile }

-- the words of `chunk`: what they ask for, or the place of the first bad one; or memory ran out
abbrev pub ReadsChunk : Command → Result ChunkWords WordsFault → Type 0
ReadsChunk command (Ok words) = command ≡ write_chunks (chunk_wanted words)
ReadsChunk command (Err fault) = GivesWordsFault command fault
