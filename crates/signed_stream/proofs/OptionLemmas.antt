-- The words, and the files that they name.
use Rattle.std.proofs.Common.{◌≡◌, ℕ, ◌<◌, ◌≤◌, ◌||◌, List, [], ◌∷◌, length, get_or, drop, map, refl, ap, arith}
use Rattle.std.specs.Prelude.{bytes_eq, codes, if◌then◌else◌}
use Rattle.std.specs.List.{list_any}
use Rattle.env_config.specs.declared.source.EnvConfigFileKind.{EnvConfigFileKind}
use Rattle.signed_stream.specs.Command.{after_seed, bad_word, command, count_given, generator_from, seeded}
use Rattle.job_text.specs.Numbers.{natural_below}
use Rattle.signed_stream.specs.ProfileOptions.{is_same_kind, place_kind, place_of}
use Rattle.signed_stream.specs.Running.{task, to_run, to_watch}
use Rattle.signed_stream.specs.WatchWords.{read_after_watch}
use Rattle.signed_stream.specs.declared.command.profile.NamedFile.{NamedFile}

pub command_empty : {A : Type 0} (text : A → List ℕ) (words : List A) → length words < 1 → command (map text words) ≡ bad_word 1
unfolding command
command_empty text [] h = refl
command_empty text (word ∷ words) h = absurd (omega arith)

pub command_first : {A : Type 0} (text : A → List ℕ) (words : List A) (word : A) → word ≡ get_or words 0 word → 1 ≤ length words → command (map text words) ≡ command (text word ∷ map text (drop 1 words))
command_first text [] word here h = absurd (omega arith)
command_first text (first ∷ words) word here h = rw here refl

-- what the words ask for, one by one
pub task_empty : {A : Type 0} (text : A → List ℕ) (words : List A) → length words < 1 → task (map text words) ≡ to_run (command (map text words))
unfolding task
task_empty text [] h = refl
task_empty text (word ∷ words) h = absurd (omega arith)

pub task_first : {A : Type 0} (text : A → List ℕ) (words : List A) (word : A) → word ≡ get_or words 0 word → 1 ≤ length words
    → task (map text words) ≡ (if bytes_eq (text word) (codes "watch") then to_watch (read_after_watch (map text (drop 1 words))) else to_run (command (map text words)))
unfolding task
task_first text [] word here h = absurd (omega arith)
task_first text (first ∷ words) word here h = rw here refl

-- the words of `gen`, one by one
pub generator_empty : {A : Type 0} (text : A → List ℕ) (words : List A) → length words < 1 → generator_from (map text words) ≡ bad_word 2
generator_empty text [] h = refl
generator_empty text (word ∷ words) h = absurd (omega arith)

pub generator_first : {A : Type 0} (text : A → List ℕ) (words : List A) (word : A) → word ≡ get_or words 0 word → 1 ≤ length words
    → generator_from (map text words) ≡ after_seed (natural_below 18446744073709551616 (text word)) (map text (drop 1 words))
generator_first text [] word here h = absurd (omega arith)
generator_first text (first ∷ words) word here h = rw here refl

pub seeded_empty : {A : Type 0} (seed : ℕ) (text : A → List ℕ) (words : List A) → length words < 1 → seeded seed (map text words) ≡ bad_word 3
seeded_empty seed text [] h = refl
seeded_empty seed text (word ∷ words) h = absurd (omega arith)

pub seeded_first : {A : Type 0} (seed : ℕ) (text : A → List ℕ) (words : List A) (word : A) → word ≡ get_or words 0 word → 1 ≤ length words
    → seeded seed (map text words) ≡ count_given seed (natural_below 100001 (text word)) (map text (drop 1 words))
seeded_first seed text [] word here h = absurd (omega arith)
seeded_first seed text (first ∷ words) word here h = rw here refl

-- the kinds of named files are those of their places
pub kind_named : (kind : EnvConfigFileKind) (files : List NamedFile) → list_any (λ place. is_same_kind kind (place_kind place)) (map place_of files) ≡ list_any (λ file. is_same_kind kind file.kind) files
kind_named kind [] = refl
kind_named kind (file ∷ files) = ap (λ rest. is_same_kind kind file.kind || rest) (kind_named kind files)
