-- The keys of parsed files are in lower case.
use Rattle.std.proofs.Common.{◌≡◌, ℕ, ◌+◌, Bool, true, false, cond, List, [], ◌∷◌, Ordering, Less, Equal, Greater, is_eq, refl, sym, ap, subst, ◌∙◌}
use Rattle.std.specs.Prelude.{Option, Some, None, unwrap_or, Result, Ok, Err, bytes_eq, codes, nat_eq, slice_index}
use Rattle.std.specs.Option.{option_and_then}
use Rattle.std.specs.Ordering.{match_ordering, ordering_then}
use Rattle.std.proofs.lemmas.Map.Text.{is_eq-slice_cmp}
use Rattle.std.proofs.lemmas.Slice.Eq.{bytes_eq-Decides}
use Rattle.std.proofs.lemmas.Bool.{false≢true}
use Rattle.smithy_core.specs.TextPairs.{lower}
use Rattle.smithy_core.proofs.LowerLemmas.{lower_lower}
use Rattle.env_config.specs.declared.line.PropertyFault.{PropertyFault}
use Rattle.env_config.specs.declared.line.PropertyFault.TheVariants.{NoEquals, NoName}
use Rattle.env_config.specs.declared.source.EnvConfigFileKind.{EnvConfigFileKind}
use Rattle.env_config.specs.Laws.{value_in}
use Rattle.env_config.specs.Line.{is_blank, is_skipped, profile_lines, property_of, section_name}
use Rattle.env_config.specs.Raw.{everything, Last, Open, State, after_line, begun_property, continued, continued_or, grown, last_step, profile_line_step, opened, properties_of, raw, raw_from, section_step, start, sub_checked, within_section}
use Rattle.env_config.specs.Sections.{FileText, Section, Sections, after_file, files_from, has_profile_default, heading_of, is_identifier, is_taken_from, merged_into, no_sections, put_identifiers, put_others, section_properties, sections, with_file, with_names, with_raw, with_section}
use Rattle.env_config.specs.Texts.{EachValue, Named, put, text_cmp, value_under}

-- ## Texts

abbrev pub IsLower : List ℕ → Type 0
IsLower key = lower key ≡ key

-- texts that are tied are the same
pub tied_same : (a b : List ℕ) → is_eq (text_cmp a b) ≡ true → a ≡ b
tied_same a b tied = (bytes_eq-Decides a b).0 (sym (is_eq-slice_cmp a b) ∙ tied)

pub then_first : (a b : Ordering) → is_eq (ordering_then a b) ≡ true → is_eq a ≡ true
then_first Equal b is = refl
then_first Less b is = is
then_first Greater b is = is

pub then_second : (a b : Ordering) → is_eq (ordering_then a b) ≡ true → is_eq b ≡ true
then_second Equal b is = is
then_second Less b is = absurd (false≢true is)
then_second Greater b is = absurd (false≢true is)

pub either : {X : Type 0} (P : X → Type 0) (b : Bool) (x y : X) → P x → P y → P (cond b x y)
either P true x y here there = here
either P false x y here there = there

-- ## Maps

-- each key is in lower case
abbrev pub LowerKeys : List (List ℕ × List ℕ) → Type 0
LowerKeys [] = Unit {0}
LowerKeys (e ∷ es) = IsLower e.0 × LowerKeys es

pub put_each : {X : Type 0} (P : X → Type 0) (es : List (List ℕ × X)) (key : List ℕ) (value : X) → EachValue P es → P value → EachValue P (put es key value)
put_each P [] key value each is = (is, tt)
put_each P (e ∷ es) key value each is = by (text_cmp key e.0) (put_each P es key value each.1 is)
  where
    by : (o : Ordering) → EachValue P (put es key value) → EachValue P (match_ordering o ((key, value) ∷ e ∷ es) ((e.0, value) ∷ es) (e ∷ put es key value))
    by Less more = (is, each)
    by Equal more = (is, each.1)
    by Greater more = (each.0, more)

put_lower : (es : List (List ℕ × List ℕ)) (key value : List ℕ) → LowerKeys es → IsLower key → LowerKeys (put es key value)
put_lower [] key value each is = (is, tt)
put_lower (e ∷ es) key value each is = by (text_cmp key e.0) (put_lower es key value each.1 is)
  where
    by : (o : Ordering) → LowerKeys (put es key value) → LowerKeys (match_ordering o ((key, value) ∷ e ∷ es) ((e.0, value) ∷ es) (e ∷ put es key value))
    by Less more = (is, each)
    by Equal more = each
    by Greater more = (each.0, more)

abbrev pub OfSome : {X : Type 0} → (X → Type 0) → Option X → Type 0
OfSome P None = Unit {0}
OfSome P (Some x) = P x

pub value_each : {X : Type 0} (P : X → Type 0) (es : List (List ℕ × X)) (key : List ℕ) → EachValue P es → OfSome P (value_under es key)
value_each P [] key each = tt
value_each P (e ∷ es) key each = either (OfSome P) (is_eq (text_cmp key e.0)) (Some e.1) (value_under es key) each.0 (value_each P es key each.1)

-- a key that has a value
found_lower : (es : List (List ℕ × List ℕ)) (key value : List ℕ) → LowerKeys es → value_under es key ≡ Some value → IsLower key
found_lower [] key value each found = absurd cc
found_lower (e ∷ es) key value each found = by (is_eq (text_cmp key e.0)) refl found (λ later. found_lower es key value each.1 later)
  where
    by : (b : Bool) → is_eq (text_cmp key e.0) ≡ b → cond b (Some e.1) (value_under es key) ≡ Some value → (value_under es key ≡ Some value → IsLower key) → IsLower key
    by true tied found later = subst IsLower (sym (tied_same key e.0 tied)) each.0
    by false tied found later = later found

-- ## Lines

-- every key so far is in lower case
record LowerState (state : State) : Type 0 where
  pub each : EachValue LowerKeys state.sections.values
  pub at : OfSome (λ (at : Open). OfSome (λ (last : Last). IsLower last.key) at.last) state.open_section

abbrev pub OfOk : {X E : Type 0} → (X → Type 0) → Result X E → Type 0
OfOk P (Ok x) = P x
OfOk P (Err e) = Unit {0}

or_none : (o : Option (List (List ℕ × List ℕ))) → OfSome LowerKeys o → LowerKeys (unwrap_or o [])
or_none None is = tt
or_none (Some pairs) is = is

properties_lower : (sections : Named (List (List ℕ × List ℕ))) (name : List ℕ) → EachValue LowerKeys sections.values → LowerKeys (properties_of sections name)
properties_lower sections name each = or_none (value_under sections.values name) (value_each LowerKeys sections.values name each)

opened_lower : (state : State) (name : List ℕ) → LowerState state → LowerState (opened everything state name)
opened_lower state name is = record {
  each = put_each LowerKeys state.sections.values name (properties_of state.sections name) is.each (properties_lower state.sections name is.each);
  at = tt;
}

section_lower : (state : State) (name : Option (List ℕ)) → LowerState state → OfOk LowerState (section_step everything state name)
section_lower state None is = tt
section_lower state (Some name) is = opened_lower state name is

last_lower : (state : State) (name : List ℕ) (step : Result Last (List ℕ)) → LowerState state → OfOk (λ (last : Last). IsLower last.key) step → OfOk LowerState (last_step everything state name step)
last_lower state name (Err message) is low = tt
last_lower state name (Ok last) is low =
    let properties = properties_of state.sections name in
    record {
      each = put_each LowerKeys state.sections.values name (put properties last.key last.value) is.each (put_lower properties last.key last.value (properties_lower state.sections name is.each) low);
      at = low;
    }

within_lower : (state : State) (at : Option Open) (step : Open → Result Last (List ℕ)) → LowerState state → OfSome (λ (at : Open). OfSome (λ (last : Last). IsLower last.key) at.last) at
    → ((at : Open) → OfSome (λ (last : Last). IsLower last.key) at.last → OfOk (λ (last : Last). IsLower last.key) (step at)) → OfOk LowerState (within_section everything state at step)
within_lower state None step is low steps = tt
within_lower state (Some at) step is low steps = last_lower state at.name (step at) is (steps at low)

begun_lower : (property : Result (List ℕ × List ℕ) PropertyFault) → OfOk (λ (last : Last). IsLower last.key) (begun_property property)
begun_lower (Ok pair) = lower_lower pair.0
begun_lower (Err NoEquals) = tt
begun_lower (Err NoName) = tt

checked_lower : (property : Result (List ℕ × List ℕ) PropertyFault) (last : Last) → IsLower last.key → OfOk (λ (last : Last). IsLower last.key) (sub_checked property last)
checked_lower (Ok pair) last low = low
checked_lower (Err NoEquals) last low = tt
checked_lower (Err NoName) last low = tt

continued_lower : (last : Option Last) (line : List ℕ) → OfSome (λ (last : Last). IsLower last.key) last → OfOk (λ (last : Last). IsLower last.key) (continued_or last line)
unfolding continued
continued_lower None line low = tt
continued_lower (Some last) line low =
    either (OfOk (λ (last : Last). IsLower last.key)) last.is_parent (sub_checked (property_of line) (grown last line)) (Ok (grown last line)) (checked_lower (property_of line) (grown last line) low) low

line_lower : (state : State) (line : List ℕ) → LowerState state → OfOk LowerState (profile_line_step everything state line)
unfolding profile_line_step
line_lower state line is =
    let P : Result State (List ℕ) → Type 0 = OfOk LowerState in
    let more = within_section everything state state.open_section (λ at. continued_or at.last line) in
    let new = within_section everything state state.open_section (λ _. begun_property (property_of line)) in
    let later = cond (is_blank (slice_index line 0)) more new in
    let marked = cond (nat_eq (slice_index line 0) 91) (section_step everything state (section_name line)) later in
    either P (is_skipped line) (Ok state) marked is
    (either P (nat_eq (slice_index line 0) 91) (section_step everything state (section_name line)) later (section_lower state (section_name line) is)
    (either P (is_blank (slice_index line 0)) more new
    (within_lower state state.open_section (λ at. continued_or at.last line) is is.at (λ at low. continued_lower at.last line low))
    (within_lower state state.open_section (λ _. begun_property (property_of line)) is is.at (λ at low. begun_lower (property_of line)))))

lines_lower : (number : ℕ) (state : State) (lines : List (List ℕ)) → LowerState state → OfOk (λ (read : Named (List (List ℕ × List ℕ))). EachValue LowerKeys read.values) (raw_from everything number state lines)
lines_lower number state [] is = is.each
lines_lower number state (line ∷ lines) is = by (profile_line_step everything state line) (line_lower state line is) (λ next low. lines_lower (number + 1) next lines low)
  where
    by : (step : Result State (List ℕ)) → OfOk LowerState step
        → ((next : State) → LowerState next → OfOk (λ (read : Named (List (List ℕ × List ℕ))). EachValue LowerKeys read.values) (raw_from everything (number + 1) next lines))
        → OfOk (λ (read : Named (List (List ℕ × List ℕ))). EachValue LowerKeys read.values) (after_line number (λ next. raw_from everything (number + 1) next lines) step)
    by (Ok next) low more = more next low
    by (Err message) low more = tt

raw_lower : (text : List ℕ) → OfOk (λ (read : Named (List (List ℕ × List ℕ))). EachValue LowerKeys read.values) (raw everything text)
unfolding raw
raw_lower text = lines_lower 1 start (profile_lines text) (record { each = tt; at = tt })

-- ## Merging

identifiers_lower : (properties pairs : List (List ℕ × List ℕ)) → LowerKeys properties → LowerKeys pairs → LowerKeys (put_identifiers properties pairs)
identifiers_lower properties [] is low = is
identifiers_lower properties (pair ∷ pairs) is low =
    identifiers_lower (cond (is_identifier pair.0) (put properties pair.0 pair.1) properties) pairs
    (either LowerKeys (is_identifier pair.0) (put properties pair.0 pair.1) properties (put_lower properties pair.0 pair.1 is low.0) is) low.1

abbrev pub LowerSection : Section → Type 0
LowerSection section = LowerKeys section.properties

known_lower : (o : Option Section) → OfSome LowerSection o → LowerKeys (section_properties o)
known_lower None is = tt
known_lower (Some section) is = is

merged_lower : (sections : Named Section) (name : List ℕ) (pairs : List (List ℕ × List ℕ)) → EachValue LowerSection sections.values → LowerKeys pairs → EachValue LowerSection (merged_into sections name pairs).values
merged_lower sections name pairs each low =
    let properties = section_properties (value_under sections.values name) in
    put_each LowerSection sections.values name (record { name = name; properties = put_identifiers properties pairs }) each
    (identifiers_lower properties pairs (known_lower (value_under sections.values name) (value_each LowerSection sections.values name each)) low)

-- every key of profiles and sessions is in lower case
record LowerMerged (sections : Sections) : Type 0 where
  pub profiles : EachValue LowerSection sections.profiles.values
  pub sessions : EachValue LowerSection sections.sessions.values

with_section_lower : (sections : Sections) (prefix : Option (List ℕ)) (name : List ℕ) (pairs : List (List ℕ × List ℕ)) → LowerMerged sections → LowerKeys pairs → LowerMerged (with_section everything sections prefix name pairs)
with_section_lower sections None name pairs is low = record { profiles = merged_lower sections.profiles name pairs is.profiles low; sessions = is.sessions }
with_section_lower sections (Some prefix) name pairs is low =
    let profile : Sections = record sections { profiles = merged_into sections.profiles name pairs } in
    let session : Sections = record sections { sessions = merged_into sections.sessions name pairs } in
    let other : Sections = record sections { others = put_others everything sections.others prefix name pairs } in
    either LowerMerged (bytes_eq prefix (codes "profile")) profile (cond (bytes_eq prefix (codes "sso-session")) session other)
    (record { profiles = merged_lower sections.profiles name pairs is.profiles low; sessions = is.sessions })
    (either LowerMerged (bytes_eq prefix (codes "sso-session")) session other
    (record { profiles = is.profiles; sessions = merged_lower sections.sessions name pairs is.sessions low })
    (record { profiles = is.profiles; sessions = is.sessions }))

names_lower : (sections : Sections) (kind : EnvConfigFileKind) (overridden : Bool) (file : Named (List (List ℕ × List ℕ))) (names : List (List ℕ)) → LowerMerged sections → EachValue LowerKeys file.values
    → LowerMerged (with_names everything sections kind overridden file names)
names_lower sections kind overridden file [] is low = is
names_lower sections kind overridden file (name ∷ names) is low =
    let heading = heading_of name in
    let pairs = properties_of file name in
    let merged = with_section everything sections heading.prefix heading.name pairs in
    names_lower (with_raw everything sections kind overridden heading pairs) kind overridden file names
    (either LowerMerged (is_taken_from kind overridden heading.prefix heading.name) merged sections (with_section_lower sections heading.prefix heading.name pairs is (properties_lower file name low)) is) low

file_lower : (sections : Sections) (kind : EnvConfigFileKind) (file : Named (List (List ℕ × List ℕ))) → LowerMerged sections → EachValue LowerKeys file.values → LowerMerged (with_file everything sections kind file)
unfolding with_file
file_lower sections kind file is low = names_lower sections kind (has_profile_default file.names) file file.names is low

files_lower : (sections : Sections) (files : List FileText) → LowerMerged sections → OfOk LowerMerged (files_from everything sections files)
files_lower sections [] is = is
files_lower sections (file ∷ files) is = by (raw everything file.contents) (raw_lower file.contents) (λ next low. files_lower next files low)
  where
    by : (read : Result (Named (List (List ℕ × List ℕ))) (ℕ × List ℕ)) → OfOk (λ (read : Named (List (List ℕ × List ℕ))). EachValue LowerKeys read.values) read
        → ((next : Sections) → LowerMerged next → OfOk LowerMerged (files_from everything next files)) → OfOk LowerMerged (after_file file (λ read. files_from everything (with_file everything sections file.kind read) files) read)
    by (Ok read) low more = more (with_file everything sections file.kind read) (file_lower sections file.kind read is low)
    by (Err fault) low more = tt

sections_lower : (files : List FileText) (merged : Sections) → sections files ≡ Ok merged → LowerMerged merged
unfolding sections
sections_lower files merged is = subst (OfOk LowerMerged) is (files_lower no_sections files (record { profiles = tt; sessions = tt }))

-- ## The law

found_section : (section : Option Section) (key value asked : List ℕ) → OfSome LowerSection section → option_and_then (λ (s : Section). value_under s.properties key) section ≡ Some value → lower asked ≡ lower key
    → option_and_then (λ (s : Section). value_under s.properties (lower asked)) section ≡ Some value
found_section None key value asked is found same = absurd cc
found_section (Some section) key value asked is found same =
    ap (value_under section.properties) (same ∙ found_lower section.properties key value is found) ∙ found

pub profile_found : (files : List FileText) (merged : Sections) (name key value asked : List ℕ) → sections files ≡ Ok merged → value_in merged.profiles name key ≡ Some value → lower asked ≡ lower key
    → value_in merged.profiles name (lower asked) ≡ Some value
profile_found files merged name key value asked is found same =
    found_section (value_under merged.profiles.values name) key value asked (value_each LowerSection merged.profiles.values name (sections_lower files merged is).profiles) found same

pub session_found : (files : List FileText) (merged : Sections) (name key value asked : List ℕ) → sections files ≡ Ok merged → value_in merged.sessions name key ≡ Some value → lower asked ≡ lower key
    → value_in merged.sessions name (lower asked) ≡ Some value
session_found files merged name key value asked is found same =
    found_section (value_under merged.sessions.values name) key value asked (value_each LowerSection merged.sessions.values name (sections_lower files merged is).sessions) found same
