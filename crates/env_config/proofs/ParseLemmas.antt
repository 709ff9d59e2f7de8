-- The texts of files, parsed one after the other.
use Rattle.std.proofs.Common.{◌≡◌, ◌∙◌, ℕ, ◌+◌, ◌<◌, List, ◌∷◌, map, drop, length, get_or, refl, sym, ap, subst, add-one}
use Rattle.std.specs.Prelude.{Result, Err}
use Rattle.std.proofs.Math.Seq.{drop-cons}
use Rattle.env_config.specs.EnvConfigSections.{MergesText, ParsesSections}
use Rattle.env_config.specs.Raw.{Keeps}
use Rattle.env_config.specs.Sections.{FaultyLine, FileText, Sections, files_from}
use Rattle.env_config.specs.Source.{file_of}
use Rattle.env_config.specs.declared.parse_fault.ParseFault.{ParseFault}
use Rattle.env_config.specs.declared.parse_fault.ParseFault.TheVariants.{Parse, NoMemory}
use Rattle.env_config.specs.declared.source.File.{File}

-- the file at an index, and those after it
pub files_front : (items read : List File) (i : ℕ) (item : File) → read ≡ items → i < length read → item ≡ get_or read i item → map file_of (drop i items) ≡ file_of item ∷ map file_of (drop (i + 1) items)
files_front items read i item same within is =
    let front : drop i read ≡ item ∷ drop (i + 1) read = drop-cons read i item within ∙ rw (← is, add-one) refl in
    let P : List File → Type 0 = λ files. map file_of (drop i files) ≡ file_of item ∷ map file_of (drop (i + 1) files) in
    subst P same (ap (map file_of) front)

-- the fault of a file is that of all files
pub file_refused : (keeps : Keeps) (profile : List ℕ) (before now : Sections) (file : FileText) (files : List FileText) (read : Result Sections FaultyLine) (fault : ParseFault)
    → files_from keeps before (file ∷ files) ≡ read → MergesText keeps before file now (Err fault) → ParsesSections read profile (Err fault)
file_refused keeps profile before now file files read (Parse error) is merges = sym is ∙ merges (λ next. files_from keeps next files)
file_refused keeps profile before now file files read NoMemory is merges = tt
