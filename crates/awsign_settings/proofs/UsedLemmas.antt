-- The settings that are printed are those that a request is signed with.
use Rattle.std.proofs.Common.{◌≡◌, ◌++◌, ◌∷◌, [], ℕ, List, Bool, true, false, Option, Some, None, append_assoc, append-nil, codes, cond, fold, length, option_map, refl, sym, ap, ap₂, subst, ◌∙◌}
use Rattle.std.proofs.Math.Dec.{eqb-suc-zero}
use Rattle.std.specs.Prelude.{Result, Ok, Err, unwrap_or}
use Rattle.std.specs.Option.{option_or}
use Rattle.smithy_core.specs.TextPairs.{last_value}
use Rattle.env_config.specs.Laws.{value_in}
use Rattle.env_config.specs.Raw.{everything, raw}
use Rattle.env_config.specs.Sections.{FaultyLine, FileText, Sections, after_file, files_from, no_sections, sections, with_file}
use Rattle.env_config.specs.Texts.{Named}
use Rattle.env_config.proofs.LaterLemmas.{later_profile, files_go_on}
use Rattle.awsign_words.specs.Words.{OptionValues, has}
use Rattle.aws_settings.specs.Choice.{ChosenKey, ChosenSettings, Lack, Profile, choice_by, chosen_key, chosen_settings, faulty, filled, key_behind, key_or, key_with, no_key, no_secret, profile_in, profile_of, region_by, settings_of_parts, variable, variable_key}
use Rattle.awsign_run.specs.Chosen.{asked_profile}
use Rattle.awsign_settings.specs.Own.{Own, onto_own, own_profiles, part_in, part_key}
use Rattle.awsign_settings.specs.Settings.{Used, by_name, by_nothing, given_choice, filled_use, from_files, from_option, from_variable, key_of_parts, last_part, part_of_own, use_in_file, used_key, used_key_behind, used_profile, used_region, used_settings, used_variable_key, used_value}
use Rattle.awsign_settings.specs.UsedLaws.{printed_choice}
use Rattle.awsign_settings.specs.declared.part.Part.{Part}
use Rattle.awsign_settings.specs.declared.part.Part.TheVariants.{KeyId, Secret, Token, Region}

-- ## Files

-- a file that gives sections by itself gives some behind others
one_more : (s one : Sections) (file : FileText) → sections (file ∷ []) ≡ Ok one → (after : Sections) × (files_from everything s (file ∷ []) ≡ Ok after)
unfolding sections
one_more s one file is = by (raw everything file.contents) is
  where
    by : (read : Result (Named (List (List ℕ × List ℕ))) (ℕ × List ℕ)) → after_file file (λ read. files_from everything (with_file everything no_sections file.kind read) []) read ≡ Ok one
        → (after : Sections) × (after_file file (λ read. files_from everything (with_file everything s file.kind read) []) read ≡ Ok after)
    by (Ok read) is = (with_file everything s file.kind read, refl)
    by (Err fault) is = absurd cc

-- a file with a faulty line has it behind others too
faulty_behind : (s : Sections) (line : FaultyLine) (file : FileText) (files : List FileText) → sections (file ∷ []) ≡ Err line → files_from everything s (file ∷ files) ≡ Err line
unfolding sections
faulty_behind s line file files is = by (raw everything file.contents) is
  where
    by : (read : Result (Named (List (List ℕ × List ℕ))) (ℕ × List ℕ)) → after_file file (λ read. files_from everything (with_file everything no_sections file.kind read) []) read ≡ Err line
        → after_file file (λ read. files_from everything (with_file everything s file.kind read) files) read ≡ Err line
    by (Ok read) is = absurd cc
    by (Err fault) is = is

-- the sections of files with one more
with_one : (front : List FileText) (before one : Sections) (file : FileText) → sections front ≡ Ok before → sections (file ∷ []) ≡ Ok one
    → (after : Sections) × (sections (front ++ file ∷ []) ≡ Ok after)
unfolding sections
with_one front before one file before_is alone_is =
    let more = one_more before one file alone_is in
    (more.0, files_go_on no_sections before front (file ∷ []) before_is ∙ more.1)

faulty_with : (front : List FileText) (before : Sections) (line : FaultyLine) (file : FileText) (files : List FileText) → sections front ≡ Ok before → sections (file ∷ []) ≡ Err line
    → sections (front ++ file ∷ files) ≡ Err line
unfolding sections
faulty_with front before line file files before_is is = files_go_on no_sections before front (file ∷ files) before_is ∙ faulty_behind before line file files is

-- ## Parts

-- the value of a part that was found
abbrev found_value : Option (FileText × List ℕ) → Option (List ℕ)
found_value found = option_map (λ (f : FileText × List ℕ). f.1) found

-- a part of a profile among sections
part_value : (part : Part) (s : Sections) (name : List ℕ) → part_in part (profile_in name (record { sections = s; selected = name })) ≡ value_in s.profiles name (part_key part)
part_value KeyId s name = refl
part_value Secret s name = refl
part_value Token s name = refl
part_value Region s name = refl

-- a file's part goes before what was found
found_step : (file : FileText) (value : Option (List ℕ)) (found : Option (FileText × List ℕ))
    → found_value (option_or (option_map (λ (v : List ℕ). (file, v)) value) found) ≡ option_or value (found_value found)
found_step file None found = refl
found_step file (Some value) found = refl

-- what was found in files has the values of their sections
abbrev Stands : List ℕ → Sections → (Part → Option (FileText × List ℕ)) → Type 0
Stands name s found = (part : Part) → value_in s.profiles name (part_key part) ≡ found_value (found part)

-- the parts that files to come give, behind what was found
abbrev found_behind : (Part → Option (FileText × List ℕ)) → List Own → Part → Option (FileText × List ℕ)
found_behind found owns part = fold (λ found own. option_or (part_of_own part own) found) (found part) owns

-- the same with one file more
abbrev found_in : (Part → Option (FileText × List ℕ)) → Own → Part → Option (FileText × List ℕ)
found_in found own part = option_or (part_of_own part own) (found part)

-- ## All files

-- the sections of all files have the parts that were found last
abbrev Gives : List ℕ → List FileText → (Part → Option (FileText × List ℕ)) → Type 0
Gives name files found = (all : Sections) × (sections files ≡ Ok all) × Stands name all found

module _ (name : List ℕ) where
  stands_more : (front : List FileText) (before one after : Sections) (file : FileText) (found : Part → Option (FileText × List ℕ)) → Stands name before found
      → sections front ≡ Ok before → sections (file ∷ []) ≡ Ok one → sections (front ++ file ∷ []) ≡ Ok after
      → Stands name after (found_in found (record { file = file; profile = profile_in name (record { sections = one; selected = name }) }))
  stands_more front before one after file found stands before_is alone_is after_is part =
      later_profile front file before one after name (part_key part) before_is alone_is after_is
      ∙ ap₂ option_or (sym (part_value part one name)) (stands part)
      ∙ sym (found_step file (part_in part (profile_in name (record { sections = one; selected = name }))) (found part))

  all_given : (files front : List FileText) (before : Sections) (found : Part → Option (FileText × List ℕ)) (owns : List Own) → sections front ≡ Ok before → Stands name before found
      → own_profiles name files ≡ Ok owns → Gives name (front ++ files) (found_behind found owns)
  all_given [] front before found owns before_is stands is =
      let none : owns ≡ [] = cc in
      rw none (before, ap sections (append-nil front) ∙ before_is, stands)
  all_given (file ∷ files) front before found owns before_is stands is = by (sections (file ∷ [])) (own_profiles name files) refl (λ next more. all_given files (front ++ file ∷ []) next more) is
    where
      by : (read : Result Sections FaultyLine) (others : Result (List Own) Lack) → sections (file ∷ []) ≡ read
          → ((next : Sections) (more : Part → Option (FileText × List ℕ)) (rest : List Own) → sections (front ++ file ∷ []) ≡ Ok next → Stands name next more
          → others ≡ Ok rest → Gives name ((front ++ file ∷ []) ++ files) (found_behind more rest))
          → onto_own file (profile_of read name) others ≡ Ok owns → Gives name (front ++ file ∷ files) (found_behind found owns)
      by (Err line) others alone_is again is = absurd cc
      by (Ok one) (Err lack) alone_is again is = absurd cc
      by (Ok one) (Ok rest) alone_is again is =
          let own : Own = record { file = file; profile = profile_in name (record { sections = one; selected = name }) } in
          let next = with_one front before one file before_is alone_is in
          let given = again next.0 (found_in found own) rest next.1 (stands_more front before one next.0 file found stands before_is alone_is next.1) refl in
          let same : owns ≡ own ∷ rest = cc in
          rw same (subst (λ (files : List FileText). Gives name files (found_behind (found_in found own) rest)) (append_assoc front (file ∷ []) files) given)

  first_faulty : (files front : List FileText) (before : Sections) (lack : Lack) → sections front ≡ Ok before
      → own_profiles name files ≡ Err lack → profile_of (sections (front ++ files)) name ≡ Err lack
  first_faulty [] front before lack before_is is = absurd cc
  first_faulty (file ∷ files) front before lack before_is is = by (sections (file ∷ [])) (own_profiles name files) refl (λ next. first_faulty files (front ++ file ∷ []) next lack) is
    where
      by : (read : Result Sections FaultyLine) (others : Result (List Own) Lack) → sections (file ∷ []) ≡ read
          → ((next : Sections) → sections (front ++ file ∷ []) ≡ Ok next → others ≡ Err lack → profile_of (sections ((front ++ file ∷ []) ++ files)) name ≡ Err lack)
          → onto_own file (profile_of read name) others ≡ Err lack → profile_of (sections (front ++ file ∷ files)) name ≡ Err lack
      by (Err line) others alone_is again is =
          let same : faulty line ≡ lack = cc in
          ap (λ (r : Result Sections FaultyLine). profile_of r name) (faulty_with front before line file files before_is alone_is) ∙ ap Err same
      by (Ok one) (Ok rest) alone_is again is = absurd cc
      by (Ok one) (Err other) alone_is again is =
          let next = with_one front before one file before_is alone_is in
          let same : other ≡ lack = cc in
          ap (λ (files : List FileText). profile_of (sections files) name) (sym (append_assoc front (file ∷ []) files)) ∙ again next.0 next.1 (ap Err same)

  no_files : sections [] ≡ Ok no_sections
  unfolding sections
  no_files = refl

  pub faulty_alike : (files : List FileText) (lack : Lack) → own_profiles name files ≡ Err lack → profile_of (sections files) name ≡ Err lack
  faulty_alike files lack is = first_faulty files [] no_sections lack no_files is

  -- what sections have of the profile
  abbrev pub profile_from : Sections → Profile
  profile_from all = profile_in name (record { sections = all; selected = name })

  -- the profile that all files give has the parts that were found last
  pub profile_given : (files : List FileText) (owns : List Own) → own_profiles name files ≡ Ok owns
      → (all : Sections) × (profile_of (sections files) name ≡ Ok (profile_from all)) × ((part : Part) → part_in part (profile_from all) ≡ found_value (last_part part owns))
  profile_given files owns is =
      let given = all_given files [] no_sections (λ part. None) owns no_files (λ part. refl) is in
      (given.0, ap (λ (r : Result Sections FaultyLine). profile_of r name) given.1, λ part. part_value part given.0 name ∙ given.2 part)

-- ## Values

either_value : (x y : Option Used) → used_value (option_or x y) ≡ option_or (used_value x) (used_value y)
either_value None y = refl
either_value (Some x) y = refl

filled_value : (name : List ℕ) (value : Option (List ℕ)) → used_value (filled_use (option_map (λ (v : List ℕ). record { value = v; whence = by_name name }) value)) ≡ filled value
filled_value name None = refl
filled_value name (Some []) = refl
filled_value name (Some (byte ∷ text)) =
    ap (λ (b : Bool). used_value (cond b None (Some (record { value = byte ∷ text; whence = by_name name })))) (eqb-suc-zero (length text))

named_value : (word : List ℕ) (value : Option (List ℕ)) → used_value (option_map (λ (v : List ℕ). record { value = v; whence = by_name word }) value) ≡ value
named_value word None = refl
named_value word (Some value) = refl

file_value : (name : List ℕ) (part : Part) (found : Option (FileText × List ℕ)) → used_value (filled_use (option_map (use_in_file name part) found)) ≡ filled (found_value found)
file_value name part None = refl
file_value name part (Some (file, [])) = refl
file_value name part (Some (file, byte ∷ text)) =
    ap (λ (b : Bool). used_value (cond b None (Some (use_in_file name part (file, byte ∷ text))))) (eqb-suc-zero (length text))

default_value : (x : Option Used) (d : Used) → (unwrap_or x d).value ≡ unwrap_or (used_value x) d.value
default_value None d = refl
default_value (Some x) d = refl

-- ## The choice

module _ (options : OptionValues) (env : List (List ℕ × List ℕ)) where
  option_value : (word : List ℕ) → used_value (from_option options word) ≡ last_value options word
  option_value word = named_value word (last_value options word)

  variable_value : (name : List ℕ) → used_value (from_variable env name) ≡ variable env name
  variable_value name = filled_value name (last_value env name)

  same_name : (used_profile options env).value ≡ asked_profile options env
  same_name =
      let named = from_option options (codes "--profile") in
      let set = from_variable env (codes "AWS_PROFILE") in
      default_value (option_or named set) (record { value = codes "default"; whence = by_nothing })
      ∙ ap (λ (v : Option (List ℕ)). unwrap_or v (codes "default"))
      (either_value named set ∙ ap₂ option_or (option_value (codes "--profile")) (variable_value (codes "AWS_PROFILE")))

  same_variable : used_value (used_variable_key options env) ≡ variable_key (has options (codes "--profile")) env
  same_variable = by (has options (codes "--profile"))
    where
      by : (b : Bool) → used_value (cond b None (from_variable env (codes "AWS_ACCESS_KEY_ID"))) ≡ variable_key b env
      by true = refl
      by false = variable_value (codes "AWS_ACCESS_KEY_ID")

  module _ (owns : List Own) (profile : Profile) (named : profile.name ≡ asked_profile options env)
      (parts : (part : Part) → part_in part profile ≡ found_value (last_part part owns)) where
    profile_part : (part : Part) → used_value (from_files (asked_profile options env) part owns) ≡ filled (part_in part profile)
    profile_part part = file_value (asked_profile options env) part (last_part part owns) ∙ ap filled (sym (parts part))

    same_region : used_value (used_region options env owns) ≡ region_by (last_value options (codes "--region")) env profile
    same_region =
        let asked = from_option options (codes "--region") in
        let set = from_variable env (codes "AWS_REGION") in
        let usual = from_variable env (codes "AWS_DEFAULT_REGION") in
        either_value (option_or (option_or asked set) usual) (from_files (asked_profile options env) Region owns)
        ∙ ap₂ option_or
        (either_value (option_or asked set) usual
        ∙ ap₂ option_or (either_value asked set ∙ ap₂ option_or (option_value (codes "--region")) (variable_value (codes "AWS_REGION")))
        (variable_value (codes "AWS_DEFAULT_REGION")))
        (profile_part Region)

    key_same : (u : Option Used) → key_of_parts profile.name (used_key_behind env (asked_profile options env) owns u) ≡ key_behind env profile (used_value u)
    key_same (Some key_id) =
        ap₂ (λ (s t : Option (List ℕ)). key_or no_secret (key_with (Some key_id.value) s t)) (variable_value (codes "AWS_SECRET_ACCESS_KEY")) (variable_value (codes "AWS_SESSION_TOKEN"))
    key_same None =
        let key : Option (List ℕ) → Option (List ℕ) → Option (List ℕ) → Result ChosenKey Lack = λ k s t. key_or (no_key profile.name) (key_with k s t) in
        ap (λ (k : Option (List ℕ)). key k (used_value (from_files (asked_profile options env) Secret owns)) (used_value (from_files (asked_profile options env) Token owns))) (profile_part KeyId)
        ∙ ap₂ (key (filled profile.key_id)) (profile_part Secret) (profile_part Token)

    same_key : key_of_parts profile.name (used_key options env owns) ≡ chosen_key (has options (codes "--profile")) env profile
    same_key = key_same (used_variable_key options env) ∙ ap (key_behind env profile) same_variable

    same_choice : given_choice (used_settings options env owns) ≡ chosen_settings (has options (codes "--profile")) (last_value options (codes "--region")) env profile
    unfolding used_settings chosen_settings
    same_choice =
        let name : (used_profile options env).value ≡ profile.name = same_name ∙ sym named in
        ap (λ (n : List ℕ). settings_of_parts n (key_of_parts n (used_key options env owns)) (used_value (used_region options env owns))) name
        ∙ ap₂ (settings_of_parts profile.name) same_key same_region

-- what is printed is what is chosen
pub printed_chosen : (options : OptionValues) (env : List (List ℕ × List ℕ)) (files : List FileText) → printed_choice options env (own_profiles (asked_profile options env) files)
    ≡ choice_by (has options (codes "--profile")) (last_value options (codes "--region")) env (profile_of (sections files) (asked_profile options env))
printed_chosen options env files = by (own_profiles (asked_profile options env) files) refl
  where
    name : List ℕ
    name = asked_profile options env

    choice : Result Profile Lack → Result ChosenSettings Lack
    choice profile = choice_by (has options (codes "--profile")) (last_value options (codes "--region")) env profile

    by : (planned : Result (List Own) Lack) → own_profiles name files ≡ planned → printed_choice options env planned ≡ choice (profile_of (sections files) name)
    by (Err lack) is = ap choice (sym (faulty_alike name files lack is))
    by (Ok owns) is =
        let given = profile_given name files owns is in
        same_choice options env owns (profile_in name (record { sections = given.0; selected = name })) refl given.2 ∙ ap choice (sym given.1)
