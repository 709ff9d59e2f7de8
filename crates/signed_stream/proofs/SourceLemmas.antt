-- The files that a run needs, and what they select.
use Rattle.std.proofs.Common.{◌≡◌, ℕ, ◌+◌, ◌<◌, ◌≤◌, inl, inr, List, [], ◌∷◌, ◌++◌, length, map, take, get_or, Option, Some, None, refl, sym, ap, ◌∙◌, append_assoc, add-one, arith}
use Rattle.std.proofs.Math.Seq.{take-suc}
use Rattle.std.proofs.lemmas.List.{map-append}
use Rattle.std.specs.Prelude.{Result, Ok, Err, string_bytes}
use Rattle.std.specs.Global.{Vec}
use Rattle.smithy_core.specs.Outside.{CountsFault}
use Rattle.smithy_core.specs.declared.outside.disk.Disk as Disk
use Rattle.smithy_core.specs.declared.outside.disk.DiskError.{DiskError}
use Rattle.env_config.specs.Files.{Place, Usual, added_places, chosen_places, defaults_of, or_usual}
use Rattle.env_config.specs.Loading.{Loads, StopsAtFile}
use Rattle.env_config.specs.Source.{file_of}
use Rattle.env_config.specs.declared.files.Builder.{Builder}
use Rattle.env_config.specs.declared.load_fault.EnvConfigFileLoadError.{EnvConfigFileLoadError}
use Rattle.env_config.specs.declared.load_fault.EnvConfigFileLoadError.TheVariants as loads
use Rattle.env_config.specs.declared.source.EnvConfigFileKind.{EnvConfigFileKind}
use Rattle.env_config.specs.declared.source.EnvConfigFileKind.TheVariants.{Config, Credentials}
use Rattle.env_config.specs.declared.source.Source.{Source}
use Rattle.env_config.proofs.FilesLemmas.{chosen_grows}
use Rattle.signed_stream.specs.Carriers.{IsAfterTexts}
use Rattle.signed_stream.specs.Effects.{ReadsAndWrites}
use Rattle.signed_stream.specs.Plan.{FilesRead, loaded, unloaded, unreadable}
use Rattle.signed_stream.specs.ProfileOptions.{place_of}
use Rattle.job_text.specs.ProfileTexts.{ProfileTexts}
use Rattle.signed_stream.specs.Settings.{GivesSettings, selected_in, settings}
use Rattle.signed_stream.specs.Sources.{DiskGives, given_place, given_places, selection, source_places}
use Rattle.signed_stream.specs.Selecting.{selection_ending}
use Rattle.signed_stream.specs.Status.{Ending, could_not_read_file, load_ending, output_fault, read_fault, settings_ending}
use Rattle.signed_stream.specs.declared.command.profile.NamedFile.{NamedFile}
use Rattle.signed_stream.specs.declared.settings.Settings.{Settings}
use Rattle.signed_stream.specs.declared.settings.SettingsFault.{SettingsFault}
use Rattle.signed_stream.specs.declared.settings.SettingsFault.TheVariants as faults
use Rattle.signed_stream.specs.declared.sources.SelectFault.{SelectFault}
use Rattle.signed_stream.specs.declared.sources.SelectFault.TheVariants as selections

-- a file that is named comes behind those that were
pub named_grows : (start : List Place) (before now : Builder) (named : List NamedFile) (i : ℕ) (other : NamedFile) → i < length named
    → chosen_places before ≡ start ++ map place_of (take i named) → added_places now ≡ added_places before ++ place_of (get_or named i other) ∷ [] → defaults_of now ≡ defaults_of before
    → chosen_places now ≡ start ++ map place_of (take (i + 1) named)
named_grows start before now named i other within had added same =
    let file = get_or named i other in
    let next : take (i + 1) named ≡ take i named ++ file ∷ [] = rw (add-one i) (take-suc named i other within) in
    rw (chosen_grows before now (place_of file ∷ []) added same, had, next, map-append place_of (take i named) (file ∷ []), append_assoc start (map place_of (take i named)) (place_of file ∷ [])) refl

-- `answers` is the disk's own relation of one read, `reads` its count of faults, and `shown` what it shows of its files
module _ {D : Type 0} (answers : D → List ℕ → Result (Vec ℕ) DiskError → D → Type 0) (reads : D → ℕ) (shown : Option (List (List ℕ × List ℕ))) (env : List (List ℕ × List ℕ)) where
  -- ## A file that couldn't be read

  -- no text that is given
  given_is_read : (kind : EnvConfigFileKind) (text : Option (List ℕ)) (places : List Place) (before now : D) (path : List ℕ)
      → ((before now : D) → StopsAtFile answers reads shown env places before now path → ⊥) → StopsAtFile answers reads shown env (given_place kind text ++ places) before now path → ⊥
  given_is_read kind None places before now path others stops = others before now stops
  given_is_read kind (Some text) places before now path others (inl is) = is
  given_is_read kind (Some text) places before now path others (inr later) = others later.0 now later.3

  givens_are_read : (texts : ProfileTexts) (before now : D) (path : List ℕ) → StopsAtFile answers reads shown env (given_places texts) before now path → ⊥
  givens_are_read texts before now path stops =
      given_is_read Config texts.config (given_place Credentials texts.credentials) before now path
      (λ b n last. given_is_read Credentials texts.credentials [] b n path (λ b n none. none) (rw (append_nil (given_place Credentials texts.credentials)) last)) stops
    where
      append_nil : (places : List Place) → places ++ [] ≡ places
      append_nil [] = refl
      append_nil (place ∷ places) = ap (λ rest. place ∷ rest) (append_nil places)

  -- no default file
  usual_is_read : (before now : D) (path : List ℕ) → StopsAtFile answers reads shown env (Usual Config ∷ Usual Credentials ∷ []) before now path → ⊥
  usual_is_read before now path (inl is) = is
  usual_is_read before now path (inr later) = by_second later.3
    where
      by_second : StopsAtFile answers reads shown env (Usual Credentials ∷ []) later.0 now path → ⊥
      by_second (inl is) = is
      by_second (inr last) = last.3

  stops_in_front : (named others : List Place) (before now : D) (path : List ℕ) → ((before now : D) → StopsAtFile answers reads shown env others before now path → ⊥)
      → StopsAtFile answers reads shown env (named ++ others) before now path → StopsAtFile answers reads shown env named before now path
  stops_in_front [] others before now path read stops = read before now stops
  stops_in_front (place ∷ named) others before now path read (inl is) = inl is
  stops_in_front (place ∷ named) others before now path read (inr later) = inr (later.0, later.1, later.2, stops_in_front named others later.0 now path read later.3)

  -- it is one that is named
  pub stops_named : (named : List Place) (texts : ProfileTexts) (before now : D) (path : List ℕ) → StopsAtFile answers reads shown env (source_places named texts) before now path → StopsAtFile answers reads shown env named before now path
  stops_named [] texts before now path stops = by_texts (given_places texts) (λ b n given. givens_are_read texts b n path given) stops
    where
      by_texts : (places : List Place) → ((before now : D) → StopsAtFile answers reads shown env places before now path → ⊥) → StopsAtFile answers reads shown env (or_usual places) before now path → ⊥
      by_texts [] read stops = usual_is_read before now path stops
      by_texts (place ∷ places) read stops = read before now stops
  stops_named (place ∷ named) texts before now path stops = stops_in_front (place ∷ named) (given_places texts) before now path (λ b n given. givens_are_read texts b n path given) stops

  pub load_names : (named : List Place) (texts : ProfileTexts) (before now : D) (fault : EnvConfigFileLoadError) (end : Ending) (path : List ℕ)
      → Loads answers reads shown env (source_places named texts) before now (Err fault) → end ≡ load_ending fault → end ≡ could_not_read_file path → StopsAtFile answers reads shown env named before now path
  load_names named texts before now (loads.ParseError error) end path found ends is = absurd found
  load_names named texts before now (loads.CouldNotReadFile fault) end path found ends is =
      let same : string_bytes fault.path ≡ path = (let e = sym ends ∙ is in cc) in stops_named named texts before now path (rw same at found)
  load_names named texts before now loads.NoMemory end path found ends is = let e = sym ends ∙ is in cc

  -- ## What is selected

  -- nothing, where the files aren't loaded
  pub load_selects : (places : List Place) (service_id : Option (List ℕ)) (before now : D) (fault : EnvConfigFileLoadError) (end : Ending)
      → Loads answers reads shown env places before now (Err fault) → end ≡ load_ending fault
      → (files : FilesRead) × DiskGives answers reads shown env before now places files × (selection env service_id files ≡ Err (end))
  load_selects places service_id before now (loads.ParseError error) end found ends = absurd found
  load_selects places service_id before now (loads.CouldNotReadFile fault) end found ends = (unreadable (string_bytes fault.path), found, rw ends refl)
  load_selects places service_id before now loads.NoMemory end found ends = (unloaded, tt, rw ends refl)

  -- nothing, where the settings aren't whole
  pub settings_lack : (places : List Place) (service_id : Option (List ℕ)) (before now : D) (source : Source) (fault : SettingsFault) (end : Ending)
      → Loads answers reads shown env places before now (Ok source) → GivesSettings (settings (map file_of source.files.items) (string_bytes source.profile) env service_id) (Err fault)
      → end ≡ settings_ending fault → (files : FilesRead) × DiskGives answers reads shown env before now places files × (selection env service_id files ≡ Err (end))
  settings_lack places service_id before now source faults.NoMemory end found gives ends = (unloaded, tt, rw ends refl)
  settings_lack places service_id before now source other end found gives ends = (loaded (map file_of source.files.items), found.0, rw (ends, ← found.1, gives) refl)

  pub settings_select : (places : List Place) (service_id : Option (List ℕ)) (before now : D) (source : Source) (given : Settings)
      → Loads answers reads shown env places before now (Ok source) → settings (map file_of source.files.items) (string_bytes source.profile) env service_id ≡ Ok (selected_in given)
      → (files : FilesRead) × DiskGives answers reads shown env before now places files × (selection env service_id files ≡ Ok (selected_in given))
  settings_select places service_id before now source given found gives = (loaded (map file_of source.files.items), found.0, rw (← found.1, gives) refl)

-- nothing selected ends a run once its texts were read
pub selects_after_texts : (fault : SelectFault) → IsAfterTexts (selection_ending fault)
selects_after_texts (selections.CouldNotReadFile path) = tt
selects_after_texts other = tt

-- it is neither a fault of the output nor one of the input
selects_no_output : (fault : SelectFault) (end : Ending) → end ≡ selection_ending fault → end ≡ output_fault → ⊥
selects_no_output (selections.CouldNotReadFile path) end ends is = let e = sym ends ∙ is in cc
selects_no_output other end ends is = let e = sym ends ∙ is in cc

selects_no_read : (fault : SelectFault) (end : Ending) → end ≡ selection_ending fault → end ≡ read_fault → ⊥
selects_no_read (selections.CouldNotReadFile path) end ends is = let e = sym ends ∙ is in cc
selects_no_read other end ends is = let e = sym ends ∙ is in cc

-- so neither input nor output failed where nothing is selected
pub selects_unread : (fault : SelectFault) (end : Ending) (count : ℕ) → end ≡ selection_ending fault → CountsFault (end ≡ read_fault) count count
selects_unread fault end count ends = record { rose = λ is. absurd (selects_no_read fault end ends is); stayed = λ other. refl; grew = omega arith }

selects_unwritten : (fault : SelectFault) (end : Ending) (count : ℕ) → end ≡ selection_ending fault → CountsFault (end ≡ output_fault) count count
selects_unwritten fault end count ends = record { rose = λ is. absurd (selects_no_output fault end ends is); stayed = λ other. refl; grew = omega arith }

-- and no more is done: the file that the run ends for is one that is named, and the disk is as its reads left it
pub selects_no_more : {D : Type 0} (disk : Disk.Ghosts D) (names : List ℕ → Type 0) (fault : SelectFault) (end : Ending) (before now : D) (count : ℕ) → end ≡ selection_ending fault
    → ((path : List ℕ) → selection_ending fault ≡ could_not_read_file path → names path) → disk.files now ≡ disk.files before → disk.faults before ≤ disk.faults now
    → ReadsAndWrites names end disk before now count count
selects_no_more disk names fault end before now count ends named same grew = record {
  named = λ path is. named path (sym ends ∙ is);
  same = same;
  writes = selects_unwritten fault end count ends;
  count = grew;
}
