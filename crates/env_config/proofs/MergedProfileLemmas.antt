-- The values that are taken from each file give the selected profile.
use Rattle.std.proofs.Common.{◌≡◌, ◌∙◌, ℕ, Bool, true, false, cond, ◌&&◌, ◌||◌, not, List, [], ◌∷◌, refl, sym, ap, ap₂, subst}
use Rattle.std.specs.Prelude.{Option, Some, None, is_some, unwrap_or, option_map, Result, Ok, Err, bytes_eq, codes}
use Rattle.std.specs.Option.{option_or}
use Rattle.std.specs.List.{AllByRecursion}
use Rattle.std.proofs.Common.{Less}
use Rattle.std.proofs.lemmas.Bool.{false≢true, and_parts}
use Rattle.std.proofs.lemmas.Slice.Eq.{bytes_eq-Decides}
use Rattle.env_config.specs.declared.heading.HeadingForm.{HeadingForm}
use Rattle.env_config.specs.declared.heading.HeadingForm.TheVariants.{Bare, Prefixed}
use Rattle.env_config.specs.declared.parse_fault.ParseFault.{ParseFault}
use Rattle.env_config.specs.declared.parse_fault.ParseFault.TheVariants.{Parse, NoMemory}
use Rattle.env_config.specs.declared.source.EnvConfigFileKind.{EnvConfigFileKind}
use Rattle.env_config.specs.declared.source.EnvConfigFileKind.TheVariants.{Config, Credentials}
use Rattle.env_config.specs.Kept.{has_heading}
use Rattle.env_config.specs.Latest.{Latest, form_of, group_of, group_taken, taken_values, values_in, without_places}
use Rattle.env_config.specs.Laws.{value_in}
use Rattle.env_config.specs.MergedProfile.{HasSame, MergesProfile, ParsesProfile, with_taken}
use Rattle.env_config.specs.Order.{IsRising}
use Rattle.env_config.specs.ProfileSink.{IsLatest, ReadsLatest, is_in, latest_of, place_in, value_in_group}
use Rattle.env_config.specs.Raw.{Keeps, properties_of, raw}
use Rattle.env_config.specs.Sections.{FaultyLine, FileText, Heading, Sections, after_file, files_from, has_profile_default, heading_of, is_default, is_identifier, is_profile_default, is_taken_from, with_file, with_names, with_raw, with_section}
use Rattle.env_config.specs.Texts.{Named, text_cmp, value_under}
use Rattle.env_config.proofs.NarrowMergeLemmas.{merged_gives, over, profile_gives}
use Rattle.env_config.proofs.TextsLemmas.{entries_at}

-- ## Names

-- the value of a key in a section that is taken
abbrev taken_value : EnvConfigFileKind → Bool → List ℕ → Named (List (List ℕ × List ℕ)) → List ℕ → List ℕ → Option (List ℕ)
taken_value kind overridden profile file key name =
    cond (is_taken_from kind overridden (heading_of name).prefix (heading_of name).name) (cond (has_heading (codes "profile") profile (heading_of name)) (value_under (properties_of file name) key) None) None

abbrev value_of : Option (ℕ × List ℕ) → Option (List ℕ)
value_of found = option_map (λ (f : ℕ × List ℕ). f.1) found

over_none : (key : List ℕ) (before : Option (List ℕ)) → over key None before ≡ before
over_none key before = by (is_identifier key)
  where
    by : (b : Bool) → cond b before before ≡ before
    by true = refl
    by false = refl

-- a section goes over those before it
over_both : (key : List ℕ) (place : ℕ) (rest : Option (ℕ × List ℕ)) (here before : Option (List ℕ))
    → over key (value_of rest) (over key here before) ≡ over key (value_of (option_or rest (option_map (λ (v : List ℕ). (place, v)) here))) before
over_both key place None None before = over_none key (over key None before)
over_both key place None (Some v) before = over_none key (over key (Some v) before)
over_both key place (Some f) here before = by (is_identifier key)
  where
    by : (b : Bool) → cond b (Some f.1) (cond b (option_or here before) before) ≡ cond b (Some f.1) before
    by true = refl
    by false = refl

module _ (keeps : Keeps) (kind : EnvConfigFileKind) (overridden : Bool) (file : Named (List (List ℕ × List ℕ))) (profile key : List ℕ) (rising : (name : List ℕ) → IsRising (properties_of file name)) where
  name_gives : (s : Sections) (name : List ℕ)
      → value_in (with_raw keeps s kind overridden (heading_of name) (properties_of file name)).profiles profile key ≡ over key (taken_value kind overridden profile file key name) (value_in s.profiles profile key)
  name_gives s name = by (is_taken_from kind overridden (heading_of name).prefix (heading_of name).name)
    where
      before : Option (List ℕ)
      before = value_in s.profiles profile key

      pairs : List (List ℕ × List ℕ)
      pairs = properties_of file name

      spread : (b : Bool) → cond b (over key (value_under pairs key) before) before ≡ over key (cond b (value_under pairs key) None) before
      spread true = refl
      spread false = sym (over_none key before)

      by : (b : Bool) → value_in (cond b (with_section keeps s (heading_of name).prefix (heading_of name).name pairs) s).profiles profile key
          ≡ over key (cond b (cond (has_heading (codes "profile") profile (heading_of name)) (value_under pairs key) None) None) before
      by true = profile_gives keeps s (heading_of name).prefix (heading_of name).name pairs profile key (λ _. rising name) ∙ spread (has_heading (codes "profile") profile (heading_of name))
      by false = sym (over_none key before)

  names_give : (place : List ℕ → ℕ) (names : List (List ℕ)) (s : Sections)
      → value_in (with_names keeps s kind overridden file names).profiles profile key ≡ over key (value_of (latest_of place (taken_value kind overridden profile file key) names)) (value_in s.profiles profile key)
  names_give place [] s = sym (over_none key (value_in s.profiles profile key))
  names_give place (name ∷ names) s =
      let rest = latest_of place (taken_value kind overridden profile file key) names in
      names_give place names (with_raw keeps s kind overridden (heading_of name) (properties_of file name))
      ∙ ap (over key (value_of rest)) (name_gives s name)
      ∙ over_both key (place name) rest (taken_value kind overridden profile file key name) (value_in s.profiles profile key)

-- ## The sections that are taken

-- whether sections of a group are taken, where these are
abbrev picks : Option HeadingForm → Option HeadingForm → Bool
picks None group = false
picks (Some taken) group = is_in taken group

taken_is : (kind : EnvConfigFileKind) (overridden : Bool) (profile : List ℕ) (prefix : Option (List ℕ)) → (is_some prefix ≡ true → is_default profile ≡ true → overridden ≡ true)
    → is_taken_from kind overridden prefix profile ≡ picks (group_taken kind overridden profile) (Some (form_of prefix))
taken_is Credentials overridden profile None told = by (is_identifier profile)
  where
    by : (b : Bool) → b ≡ picks (cond b (Some Bare) None) (Some Bare)
    by true = refl
    by false = refl
taken_is Credentials overridden profile (Some prefix) told = by (is_identifier profile)
  where
    by : (b : Bool) → false ≡ picks (cond b (Some Bare) None) (Some Prefixed)
    by true = refl
    by false = refl
taken_is Config overridden profile None told = by (is_default profile && not overridden) (is_identifier profile)
  where
    by : (b d : Bool) → b ≡ picks (cond b (Some Bare) (cond d (Some Prefixed) None)) (Some Bare)
    by true d = refl
    by false true = refl
    by false false = refl
taken_is Config overridden profile (Some prefix) told = by (is_default profile) overridden (is_identifier profile) (told refl)
  where
    by : (b o d : Bool) → (b ≡ true → o ≡ true) → d ≡ picks (cond (b && not o) (Some Bare) (cond d (Some Prefixed) None)) (Some Prefixed)
    by true false d told = absurd (false≢true (told refl))
    by true true true told = refl
    by true true false told = refl
    by false o true told = refl
    by false o false told = refl

-- a section of the profile is taken where its group is
heading_taken : (kind : EnvConfigFileKind) (overridden : Bool) (profile : List ℕ) (heading : Heading) → (is_profile_default heading.prefix heading.name ≡ true → overridden ≡ true) → (found : Option (List ℕ))
    → cond (is_taken_from kind overridden heading.prefix heading.name) (cond (has_heading (codes "profile") profile heading) found None) None ≡ cond (picks (group_taken kind overridden profile) (group_of profile heading)) found None
heading_taken kind overridden profile heading told found = by (has_heading (codes "profile") profile heading) refl
  where
    never : (group : Option HeadingForm) → picks group None ≡ false
    never None = refl
    never (Some taken) = refl

    nothing : (b : Bool) → cond {A = Option (List ℕ)} b None None ≡ None
    nothing true = refl
    nothing false = refl

    by : (b : Bool) → has_heading (codes "profile") profile heading ≡ b
        → cond (is_taken_from kind overridden heading.prefix heading.name) (cond b found None) None ≡ cond (picks (group_taken kind overridden profile) (cond b (Some (form_of heading.prefix)) None)) found None
    by false is =
        nothing (is_taken_from kind overridden heading.prefix heading.name)
        ∙ sym (ap (λ (b : Bool). cond b found None) (never (group_taken kind overridden profile)))
    by true is =
        let both = and_parts (bytes_eq (unwrap_or heading.prefix (codes "profile")) (codes "profile")) (bytes_eq heading.name profile) is in
        let named : heading.name ≡ profile = (bytes_eq-Decides heading.name profile).0 both.1 in
        let prefixed = both.0 in
        ap (λ (name : List ℕ). cond (is_taken_from kind overridden heading.prefix name) found None) named
        ∙ ap (λ (b : Bool). cond b found None)
        (taken_is kind overridden profile heading.prefix (λ some default. told (default_told heading.prefix prefixed some (ap is_default named ∙ default))))
      where
        default_told : (prefix : Option (List ℕ)) → bytes_eq (unwrap_or prefix (codes "profile")) (codes "profile") ≡ true → is_some prefix ≡ true → is_default heading.name ≡ true → is_profile_default prefix heading.name ≡ true
        default_told None prefixed some default = absurd (false≢true some)
        default_told (Some prefix) prefixed some default = ap (λ (b : Bool). b && is_default heading.name) prefixed ∙ default

-- the values of the group that is taken
abbrev chosen : (List ℕ → ℕ) → List ℕ → Named (List (List ℕ × List ℕ)) → List ℕ → List (List ℕ) → Option HeadingForm → Option (ℕ × List ℕ)
chosen place profile file key names None = None
chosen place profile file key names (Some group) = latest_of place (value_in_group profile file group key) names

or_true : (b d : Bool) → b ≡ true → (b || d) ≡ true
or_true true d is = refl
or_true false d is = absurd (false≢true is)

or_more : (b d : Bool) → d ≡ true → (b || d) ≡ true
or_more true d is = refl
or_more false d is = is

group_gives : (kind : EnvConfigFileKind) (overridden : Bool) (profile : List ℕ) (file : Named (List (List ℕ × List ℕ))) (key : List ℕ) (place : List ℕ → ℕ) (names : List (List ℕ)) → (has_profile_default names ≡ true → overridden ≡ true)
    → latest_of place (taken_value kind overridden profile file key) names ≡ chosen place profile file key names (group_taken kind overridden profile)
group_gives kind overridden profile file key place [] told = by (group_taken kind overridden profile)
  where
    by : (group : Option HeadingForm) → None ≡ chosen place profile file key [] group
    by None = refl
    by (Some group) = refl
group_gives kind overridden profile file key place (name ∷ names) told =
    ap₂ (λ (rest : Option (ℕ × List ℕ)) (here : Option (List ℕ)). option_or rest (option_map (λ (v : List ℕ). (place name, v)) here))
    (group_gives kind overridden profile file key place names (λ is. told (or_more (is_profile_default (heading_of name).prefix (heading_of name).name) (has_profile_default names) is)))
    (heading_taken kind overridden profile (heading_of name) (λ is. told (or_true (is_profile_default (heading_of name).prefix (heading_of name).name) (has_profile_default names) is)) (value_under (properties_of file name) key))
    ∙ by (group_taken kind overridden profile)
  where
    by : (group : Option HeadingForm)
        → option_or (chosen place profile file key names group) (option_map (λ (v : List ℕ). (place name, v)) (cond (picks group (group_of profile (heading_of name))) (value_under (properties_of file name) key) None)) ≡ chosen place profile file key (name ∷ names) group
    by None = refl
    by (Some group) = refl

-- ## Files

without_at : (values : List (List ℕ × (ℕ × List ℕ))) (key : List ℕ) → value_under (without_places values) key ≡ value_of (value_under values key)
without_at values key = sym (entries_at (text_cmp key) text_cmp (λ (k : List ℕ). k) (λ (f : ℕ × List ℕ). f.1) key (λ _. refl) values)

without_rising : (values : List (List ℕ × (ℕ × List ℕ))) → IsRising values → IsRising (without_places values)
without_rising [] rising = tt
without_rising (e ∷ es) rising = (first es rising.0, without_rising es rising.1)
  where
    first : (es : List (List ℕ × (ℕ × List ℕ))) → AllByRecursion (λ (d : List ℕ × (ℕ × List ℕ)). text_cmp e.0 d.0 ≡ Less) es → AllByRecursion (λ (d : List ℕ × List ℕ). text_cmp e.0 d.0 ≡ Less) (without_places es)
    first [] all = tt
    first (d ∷ ds) all = (all.0, first ds all.1)

-- the values that are taken go over those before
taken_gives : (latest : Latest) (file : Named (List (List ℕ × List ℕ))) (before : Sections) (profile key : List ℕ) → IsLatest profile file latest → (group : Option HeadingForm)
    → value_in (with_taken before profile (option_map (λ g. without_places (values_in latest g)) group)).profiles profile key
    ≡ over key (value_of (chosen (place_in latest) profile file key file.names group)) (value_in before.profiles profile key)
taken_gives latest file before profile key is None = sym (over_none key (value_in before.profiles profile key))
taken_gives latest file before profile key is (Some group) =
    let pairs = without_places (values_in latest group) in
    let was = value_in before.profiles profile key in
    merged_gives before.profiles profile pairs profile key (λ _. without_rising (values_in latest group) (is.rising group))
    ∙ ap (λ (b : Bool). cond b (over key (value_under pairs key) was) was) ((bytes_eq-Decides profile profile).1 refl)
    ∙ ap (λ (found : Option (List ℕ)). over key found was) (without_at (values_in latest group) key ∙ ap value_of (is.values group key))

pub file_taken : (keeps : Keeps) (kind : EnvConfigFileKind) (profile : List ℕ) (latest : Latest) (file : Named (List (List ℕ × List ℕ))) (all before : Sections) → IsLatest profile file latest → HasSame keeps profile all before
    → HasSame keeps profile (with_file keeps all kind file) (with_taken before profile (taken_values latest kind profile))
unfolding with_file
file_taken keeps kind profile latest file all before is same key kept =
    let overridden = has_profile_default file.names in
    let place = place_in latest in
    taken_gives latest file before profile key is (group_taken kind latest.overridden profile)
    ∙ ap₂ (λ (o : Bool) (was : Option (List ℕ)). over key (value_of (chosen place profile file key file.names (group_taken kind o profile))) was) is.overridden (same key kept)
    ∙ sym (names_give keeps kind overridden file profile key is.pairs place file.names all
    ∙ ap (λ (found : Option (ℕ × List ℕ)). over key (value_of found) (value_in all.profiles profile key)) (group_gives kind overridden profile file key place file.names (λ told. told)))

-- what is read of a file is merged
pub profile_merged : (keeps : Keeps) (profile : List ℕ) (read : Result (Named (List (List ℕ × List ℕ))) (ℕ × List ℕ)) (file : FileText) (latest : Latest) (before now : Sections) → ReadsLatest profile read (Ok latest)
    → now ≡ with_taken before profile (taken_values latest file.kind profile) → MergesProfile keeps profile read file before now (Ok tt)
profile_merged keeps profile (Ok sections) file latest before now reads is =
    λ all same. subst (HasSame keeps profile (with_file keeps all file.kind sections)) (sym is) (file_taken keeps file.kind profile latest sections all before reads same)
profile_merged keeps profile (Err fault) file latest before now reads is = reads

-- the files to come give what all files give, and what was merged has the profile's values
pub record FilesFollow (keeps : Keeps) (profile : List ℕ) (some : Sections) (files : List FileText) (read : Result Sections FaultyLine) : Type 0 where
  pub all : Sections
  pub same : HasSame keeps profile all some
  pub to_come : files_from keeps all files ≡ read

pub file_follows : (keeps : Keeps) (profile called : List ℕ) (before now : Sections) (file : FileText) (files : List FileText) (read : Result Sections FaultyLine) → called ≡ profile → FilesFollow keeps profile before (file ∷ files) read
    → MergesProfile keeps called (raw keeps file.contents) file before now (Ok tt) → FilesFollow keeps profile now files read
file_follows keeps profile called before now file files read named follows merges =
    by (raw keeps file.contents) follows.to_come (subst (λ (p : List ℕ). MergesProfile keeps p (raw keeps file.contents) file before now (Ok tt)) named merges)
  where
    by : (text : Result (Named (List (List ℕ × List ℕ))) (ℕ × List ℕ)) → after_file file (λ read. files_from keeps (with_file keeps follows.all file.kind read) files) text ≡ read → MergesProfile keeps profile text file before now (Ok tt)
        → FilesFollow keeps profile now files read
    by (Ok sections) to_come merges = record { all = with_file keeps follows.all file.kind sections; same = merges follows.all follows.same; to_come = to_come }
    by (Err fault) to_come merges = absurd merges

pub file_fails : (keeps : Keeps) (profile called : List ℕ) (before now : Sections) (file : FileText) (files : List FileText) (read : Result Sections FaultyLine) (fault : ParseFault) → FilesFollow keeps profile before (file ∷ files) read
    → MergesProfile keeps called (raw keeps file.contents) file before now (Err fault) → ParsesProfile keeps read profile (Err fault)
file_fails keeps profile called before now file files read (Parse error) follows merges = sym follows.to_come ∙ merges (λ read. files_from keeps (with_file keeps follows.all file.kind read) files)
file_fails keeps profile called before now file files read NoMemory follows merges = tt
