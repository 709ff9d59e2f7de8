-- The command `settings`: what was selected, as lines.
use Rattle.std.specs.Prelude.{◌≡◌, ℕ, ◌≤◌, List, length, Result, Ok, Err}
use Rattle.env_config.specs.Files.{Place}
use Rattle.env_config.specs.Loading.{selected_profile}
use Rattle.env_config.specs.Sections.{FileText}
use Rattle.signed_stream.specs.ProfileOptions.{ProfileWanted}
use Rattle.signed_stream.specs.Plan.{FilesRead, Plan, Supplied, loaded, most_input, stops, writes}
use Rattle.job_text.specs.ProfileTexts.{ProfileTexts, profile_texts}
use Rattle.signed_stream.specs.Settings.{Selected, settings}
use Rattle.signed_stream.specs.Shown.{shown_settings}
use Rattle.signed_stream.specs.Sources.{selection, source_places, when_selected}
use Rattle.signed_stream.specs.Status.{bad_job, done}

-- what the disk gave for the texts that were read
abbrev pub GaveTexts : (List Place → FilesRead → Type 0) → ProfileWanted → Result ProfileTexts ℕ → Supplied → Type 0
GaveTexts gave wanted (Ok texts) given = gave (source_places wanted.files texts) given.files
GaveTexts gave wanted (Err place) given = Unit {0}

-- to write what is selected
abbrev pub shown_plan : Selected → Plan
shown_plan selected = writes (shown_settings selected) done

-- with what was read, under these variables
abbrev pub settings_plan : List (List ℕ × List ℕ) → ProfileWanted → Supplied → Result ProfileTexts ℕ → Plan
settings_plan env wanted given (Ok texts) = when_selected shown_plan (selection env wanted.service_id given.files)
settings_plan env wanted given (Err place) = stops (bad_job place)

-- What is selected can be shown with what I/O supplied: the input isn't too large, and holds profile texts alone; the files are there, and give a key
-- id, a secret and a region.
pub record IsShowable (gave : List Place → FilesRead → Type 0) (env : List (List ℕ × List ℕ)) (wanted : ProfileWanted) (bytes : List ℕ) (given : Supplied) : Type 0 where
  pub read : ProfileTexts
  pub texts : List FileText
  pub selected : Selected
  pub short : length bytes ≤ most_input
  pub spelled : profile_texts bytes ≡ Ok read
  pub supplied : gave (source_places wanted.files read) given.files
  pub files : given.files ≡ loaded texts
  pub settled : settings texts (selected_profile env) env wanted.service_id ≡ Ok selected
