-- What the program does for a caller, over what it lends.
use Rattle.std.specs.Prelude.{◌≡◌, ◌⊎◌, ℕ, Bool, true, ◌&&◌, List, [], ◌++◌, length, replicate, map, Some, Result, Ok, Err, if◌then◌else◌}
use Rattle.std.specs.List.{list_all}
use Rattle.std.specs.Str.{is_utf8}
use Rattle.smithy_core.specs.Disk.{FindsFile}
use Rattle.smithy_core.specs.Moment.{Instant}
use Rattle.env_config.specs.Files.{Place}
use Rattle.signed_stream.specs.Command.{Wanted, stream}
use Rattle.signed_stream.specs.Plan.{FilesRead, Supplied}
use Rattle.signed_stream.specs.Running.{SinkChange, Went, task, to_run}
use Rattle.signed_stream.specs.Sources.{DiskGives}
use Rattle.signed_stream.specs.Status.{Ending, exit_code}
use Rattle.signed_stream.specs.Stream.{IsStreamable, streamed}
use Rattle.firuvaik_c.specs.Answers.{Lends, fits}
use Rattle.firuvaik_c.specs.Asked.{is_text_field, lent_pair, moment_at, unless_utf8}
use Rattle.firuvaik_c.specs.Faults.{no_memory}
use Rattle.firuvaik_c.specs.declared.answer.Answer.{Answer}
use Rattle.firuvaik_c.specs.declared.fault.Fault.{Fault}
use Rattle.firuvaik_c.specs.declared.lent.Invocation.{Invocation}
use Rattle.firuvaik_c.specs.declared.program.Outcome.{Outcome}
use Rattle.firuvaik_c.specs.declared.program.ProgramText.{ProgramText}

-- words, variables and the paths of files are UTF-8
abbrev pub are_invocation_texts : Invocation → Bool
are_invocation_texts lent =
    list_all (λ word. is_utf8 word.bytes.now) lent.words.now
    && (list_all is_text_field lent.variables.now && list_all (λ file. is_utf8 file.name.now) lent.files.now)

-- what the program has of the outside: words, variables, files by their paths, what it reads, and the one moment of its clock
pub record World : Type 0 where
  pub words : List (List ℕ)
  pub env : List (List ℕ × List ℕ)
  pub files : List (List ℕ × List ℕ)
  pub input : List ℕ
  pub at : Instant

-- what a caller lends it
abbrev pub lent_world : Invocation → World
lent_world lent = record {
  words = map (λ word. word.bytes.now) lent.words.now;
  env = map lent_pair lent.variables.now;
  files = map lent_pair lent.files.now;
  input = lent.input.now;
  at = moment_at lent.seconds;
}

-- what its files give, each by its bytes, however often it is read
abbrev pub files_give : World → List Place → FilesRead → Type 0
files_give world = DiskGives (λ before path answer now. FindsFile before path answer × (now ≡ before)) (λ _. 0) (Some world.files) world.env world.files world.files

-- each moment that is taken is the clock's one
abbrev pub clock_gives : World → List Instant → Type 0
clock_gives world taken = taken ≡ replicate (length taken) world.at

-- an empty sink gained this
abbrev pub gained : List ℕ → SinkChange
gained text = record { held_before = Some []; held_now = Some text; faults_before = 0; faults_now = 0 }

-- the program ran over this world as it is promised of any run: it ended so, this of the input is left, and this was written and said
abbrev pub RunsOver : World → Ending → List ℕ → List ℕ → List ℕ → Type 0
RunsOver world end left output said = Went (files_give world) (clock_gives world) world.env (task world.words) (Some world.input) (Some left) end 0 0 (gained output) (gained said)

-- what is asked for can be streamed, and was: the head of the signed request and then the signed frames of the events were written, and nothing else
abbrev pub StreamsOver : World → Wanted → List ℕ → Type 0
StreamsOver world wanted output = (given : Supplied) × (input : IsStreamable (files_give world) world.env wanted world.input given) × (output ≡ streamed input)

-- the program ran: its exit number, what it wrote, and behind that the line that it said
pub record HasRun (world : World) (ran : ProgramText) : Type 0 where
  pub end : Ending
  pub left : List ℕ
  pub output : List ℕ
  pub said : List ℕ
  pub runs : RunsOver world end left output said
  -- the headline: what it wrote where it was to stream and its exit number is 0
  pub headline : (wanted : Wanted) → task world.words ≡ to_run (stream wanted) → ran.outcome.code ≡ 0 → StreamsOver world wanted output
  pub text : ran.text.items ≡ output ++ said
  pub outcome : ran.outcome ≡ record { code = exit_code end; output_length = length output }

-- the program ran over what is lent, or a text of it isn't one, or memory ran out
abbrev pub RunsLent : Invocation → Result ProgramText Fault → Type 0
RunsLent lent (Ok ran) = (are_invocation_texts lent ≡ true) × HasRun (lent_world lent) ran
RunsLent lent (Err fault) = (unless_utf8 (are_invocation_texts lent) ≡ Some fault) ⊎ (fault ≡ no_memory)

-- what was written and said, and the outcome, are written where they fit, or a fault is answered and nothing is written
abbrev pub LendsProgram : Result ProgramText Fault → Outcome → Outcome → List ℕ → List ℕ → Answer → Type 0
LendsProgram (Ok ran) described described_after old new answer =
    Lends (Ok ran.text.items) old new answer × (described_after ≡ (if fits ran.text.items old then ran.outcome else described))
LendsProgram (Err fault) described described_after old new answer = Lends (Err fault) old new answer × (described_after ≡ described)
