-- What profile texts and variables give a caller to sign with, and why they don't.
use Rattle.std.specs.Prelude.{◌≡◌, ◌⊎◌, ℕ, ◌+◌, ◌≤◌, Bool, ◌&&◌, List, [], ◌++◌, codes, bytes_eq, length, map, Option, Some, None, unwrap_or, Result, Ok, Err, if◌then◌else◌}
use Rattle.std.specs.List.{list_all}
use Rattle.std.specs.Str.{is_utf8}
use Rattle.env_config.specs.Sections.{FaultyLine}
use Rattle.aws_settings.specs.AwsSettings.{named_texts, settings_given}
use Rattle.aws_settings.specs.Choice.{ChosenSettings, Lack, faulty, no_key, no_region, no_secret, profile_name}
use Rattle.firuvaik_c.specs.Answers.{Lends, fits}
use Rattle.firuvaik_c.specs.Asked.{is_text_field, lent_pair}
use Rattle.firuvaik_c.specs.Faults.{fault_numbered, no_memory, not_text}
use Rattle.firuvaik_c.specs.Frames.{piece_at}
use Rattle.firuvaik_c.specs.declared.answer.Answer.{Answer}
use Rattle.firuvaik_c.specs.declared.fault.Fault.{Fault}
use Rattle.firuvaik_c.specs.declared.lent.Sources.{Sources}
use Rattle.firuvaik_c.specs.declared.select.FoundSettings.{FoundSettings}
use Rattle.firuvaik_c.specs.declared.select.Selection.{Selection}
use Rattle.firuvaik_c.specs.declared.select.Span.{Span}

-- ---- what is asked

-- all texts are UTF-8
abbrev pub are_source_texts : Sources → Bool
are_source_texts sources = is_utf8 sources.config.now && (is_utf8 sources.credentials.now && list_all is_text_field sources.variables.now)

-- the variables
abbrev pub lent_variables : Sources → List (List ℕ × List ℕ)
lent_variables sources = map lent_pair sources.variables.now

-- ---- what is answered

-- the fault of a line: of the config text, or else of the credentials text
abbrev pub line_fault : FaultyLine → Fault
line_fault line = fault_numbered (if bytes_eq line.path (codes "the config text") then 90 else 91) line.line_number

-- the fault of what is missing
abbrev pub lack_fault : Lack → Fault
lack_fault (faulty line) = line_fault line
lack_fault (no_key profile) = fault_numbered 92 0
lack_fault no_secret = fault_numbered 93 0
lack_fault (no_region profile) = fault_numbered 94 0

-- the fault of what is missing, or memory ran out
abbrev pub lack_or_memory : Option Lack → Fault
lack_or_memory (Some lack) = lack_fault lack
lack_or_memory None = no_memory

-- the settings, or the fault of what is missing
abbrev pub or_lack : Result ChosenSettings Lack → Result ChosenSettings Fault
or_lack (Ok settings) = Ok settings
or_lack (Err lack) = Err (lack_fault lack)

-- what lent texts and variables give, or why they give nothing
abbrev pub lent_selection : Sources → Result ChosenSettings Fault
lent_selection sources =
    if are_source_texts sources then or_lack (settings_given (named_texts sources.config.now sources.credentials.now) (lent_variables sources)) else Err not_text

-- the span is that of this text among the bytes
pub record Spans (bytes : List ℕ) (span : Span) (text : List ℕ) : Type 0 where
  pub within : span.start + span.length ≤ length bytes
  pub counts : span.length ≡ length text
  pub holds : piece_at span.start span.length bytes ≡ text

-- each text of the settings is found by its span, and the profile by its name; a token that there isn't has no bytes
pub record DescribesSettings (bytes : List ℕ) (selection : Selection) (settings : ChosenSettings) (name : List ℕ) : Type 0 where
  pub key_id : Spans bytes selection.key_id settings.key.id
  pub secret : Spans bytes selection.secret settings.key.secret
  pub token : Spans bytes selection.token (unwrap_or settings.key.token [])
  pub region : Spans bytes selection.region settings.region
  pub profile : Spans bytes selection.profile name

-- what is given is described, with the profile that the variables select; or why nothing is given, or memory ran out
abbrev pub SelectsLent : Sources → Result FoundSettings Fault → Type 0
SelectsLent sources (Ok found) =
    (settings : ChosenSettings) × (lent_selection sources ≡ Ok settings) × DescribesSettings found.text.items found.selection settings (profile_name None (lent_variables sources))
SelectsLent sources (Err fault) = (lent_selection sources ≡ Err fault) ⊎ (fault ≡ no_memory)

-- texts and spans are written where the texts fit, or a fault is answered and nothing is written
abbrev pub LendsSelection : Result FoundSettings Fault → Selection → Selection → List ℕ → List ℕ → Answer → Type 0
LendsSelection (Ok found) described described_after old new answer =
    Lends (Ok found.text.items) old new answer × (described_after ≡ (if fits found.text.items old then found.selection else described))
LendsSelection (Err fault) described described_after old new answer = Lends (Err fault) old new answer × (described_after ≡ described)

-- ---- between the functions

-- a text is appended, and has this span
abbrev pub AppendsText : List ℕ → List ℕ → Span → List ℕ → Type 0
AppendsText old text span new = (new ≡ old ++ text) × (span ≡ record { start = length old; length = length text })
