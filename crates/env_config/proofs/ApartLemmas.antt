-- The names of raw sections are apart, so that each section may be taken from the others when its name comes.
use Rattle.std.proofs.Common.{◌≡◌, ℕ, ◌+◌, ◌<◌, Bool, true, false, cond, List, [], ◌∷◌, ◌++◌, length, map, drop, get_or, is_eq, add-one, Bor, refl, sym, ap, subst, ◌∙◌}
use Rattle.std.proofs.Math.Seq.{drop-cons}
use Rattle.std.specs.Prelude.{Option, Some, None, is_some, unwrap_or, Result, Ok, Err, nat_eq, slice_index}
use Rattle.std.specs.BTreeMap.{is_at}
use Rattle.std.specs.Cmp.Lexicographic.{nat_list_cmp_total}
use Rattle.std.specs.List.{AllByRecursion}
use Rattle.std.specs.Map.{remove_entry}
use Rattle.env_config.specs.declared.source.EnvConfigFileKind.{EnvConfigFileKind}
use Rattle.env_config.specs.Line.{is_blank, is_skipped, profile_lines, property_of, section_name}
use Rattle.env_config.specs.Raw.{Keeps, Last, Open, State, after_line, begun_property, continued_or, last_step, profile_line_step, properties_of, put_property, put_section, raw, raw_from, section_step, start, within_section}
use Rattle.env_config.specs.Sections.{Sections, heading_of, with_names, with_raw}
use Rattle.env_config.specs.Texts.{IsApart, Named, put, put_named, text_cmp, value_under, words_of}
use Rattle.env_config.proofs.LaterLemmas.{at_put}
use Rattle.env_config.proofs.LowerLemmas.{OfOk, either, tied_same}
use Rattle.env_config.proofs.TextsLemmas.{value_put, word_of}

-- ## Maps

pub all_more : {X : Type 0} (P : X → Type 0) (xs : List X) (x : X) → AllByRecursion P xs → P x → AllByRecursion P (xs ++ x ∷ [])
all_more P [] x all is = (is, tt)
all_more P (y ∷ xs) x all is = (all.0, all_more P xs x all.1 is)

apart_more : (names : List (List ℕ)) (name : List ℕ) → IsApart names → AllByRecursion (λ (other : List ℕ). is_eq (text_cmp name other) ≡ false) names → IsApart (names ++ name ∷ [])
apart_more [] name apart new = (tt, tt)
apart_more (other ∷ names) name apart new =
    (all_more (λ (later : List ℕ). is_eq (text_cmp later other) ≡ false) names name apart.0 new.0, apart_more names name apart.1 new.1)

-- each name has a value
abbrev HasEach : {X : Type 0} → List (List ℕ × X) → List (List ℕ) → Type 0
HasEach values names = AllByRecursion (λ (name : List ℕ). is_some (value_under values name) ≡ true) names

-- a name without one is none of them
none_of : {X : Type 0} (values : List (List ℕ × X)) (names : List (List ℕ)) (name : List ℕ) → HasEach values names → is_some (value_under values name) ≡ false
    → AllByRecursion (λ (other : List ℕ). is_eq (text_cmp name other) ≡ false) names
none_of values [] name has lacks = tt
none_of {X} values (other ∷ names) name has lacks = (by (is_eq (text_cmp name other)) refl, none_of values names name has.1 lacks)
  where
    by : (b : Bool) → is_eq (text_cmp name other) ≡ b → b ≡ false
    by false is = refl
    by true is =
        let known : is_some (value_under values name) ≡ true = ap (λ (n : List ℕ). is_some (value_under values n)) (tied_same name other is) ∙ has.0 in
        sym known ∙ lacks

has_put : {X : Type 0} (values : List (List ℕ × X)) (key : List ℕ) (value : X) (names : List (List ℕ)) → HasEach values names → HasEach (put values key value) names
has_put values key value [] has = tt
has_put {X} values key value (name ∷ names) has =
    (ap is_some (at_put text_cmp nat_list_cmp_total values key value name) ∙ by (is_eq (text_cmp name key)), has_put values key value names has.1)
  where
    by : (b : Bool) → is_some (cond b (Some value) (value_under values name)) ≡ true
    by true = refl
    by false = has.0

-- the names are apart, and each has a value
record IsNamedApart {X : Type 0} (named : Named X) : Type 0 where
  pub apart : IsApart named.names
  pub has : HasEach named.values named.names

put_sound : {X : Type 0} (named : Named X) (name : List ℕ) (value : X) → IsNamedApart named → IsNamedApart (put_named named name value)
put_sound {X} named name value is = by (is_some (value_under named.values name)) refl
  where
    kept : HasEach (put named.values name value) named.names
    kept = has_put named.values name value named.names is.has

    by : (b : Bool) → is_some (value_under named.values name) ≡ b → IsNamedApart (record { names = cond b named.names (named.names ++ name ∷ []); values = put named.values name value })
    by true known = record { apart = is.apart; has = kept }
    by false known = record {
      apart = apart_more named.names name is.apart (none_of named.values named.names name is.has known);
      has = all_more (λ (n : List ℕ). is_some (value_under (put named.values name value) n) ≡ true) named.names name kept (ap is_some (value_put named.values name value));
    }

-- ## Lines

section_put_sound : (keeps : Keeps) (sections : Named (List (List ℕ × List ℕ))) (name : List ℕ) (properties : List (List ℕ × List ℕ)) → IsNamedApart sections → IsNamedApart (put_section keeps sections name properties)
section_put_sound keeps sections name properties is = either IsNamedApart (keeps.section name) (put_named sections name properties) sections (put_sound sections name properties is) is

abbrev IsSoundState : State → Type 0
IsSoundState state = IsNamedApart state.sections

section_sound : (keeps : Keeps) (state : State) (name : Option (List ℕ)) → IsSoundState state → OfOk IsSoundState (section_step keeps state name)
section_sound keeps state None is = tt
section_sound keeps state (Some name) is = section_put_sound keeps state.sections name (properties_of state.sections name) is

last_sound : (keeps : Keeps) (state : State) (name : List ℕ) (step : Result Last (List ℕ)) → IsSoundState state → OfOk IsSoundState (last_step keeps state name step)
last_sound keeps state name (Err message) is = tt
last_sound keeps state name (Ok last) is = section_put_sound keeps state.sections name (put_property keeps (properties_of state.sections name) last) is

within_sound : (keeps : Keeps) (state : State) (at : Option Open) (step : Open → Result Last (List ℕ)) → IsSoundState state → OfOk IsSoundState (within_section keeps state at step)
within_sound keeps state None step is = tt
within_sound keeps state (Some at) step is = last_sound keeps state at.name (step at) is

line_sound : (keeps : Keeps) (state : State) (line : List ℕ) → IsSoundState state → OfOk IsSoundState (profile_line_step keeps state line)
unfolding profile_line_step
line_sound keeps state line is =
    let P : Result State (List ℕ) → Type 0 = OfOk IsSoundState in
    let more = within_section keeps state state.open_section (λ at. continued_or at.last line) in
    let new = within_section keeps state state.open_section (λ _. begun_property (property_of line)) in
    let later = cond (is_blank (slice_index line 0)) more new in
    let marked = cond (nat_eq (slice_index line 0) 91) (section_step keeps state (section_name line)) later in
    either P (is_skipped line) (Ok state) marked is
    (either P (nat_eq (slice_index line 0) 91) (section_step keeps state (section_name line)) later (section_sound keeps state (section_name line) is)
    (either P (is_blank (slice_index line 0)) more new
    (within_sound keeps state state.open_section (λ at. continued_or at.last line) is)
    (within_sound keeps state state.open_section (λ _. begun_property (property_of line)) is)))

abbrev IsSoundRead : Named (List (List ℕ × List ℕ)) → Type 0
IsSoundRead read = IsNamedApart read

lines_sound : (keeps : Keeps) (number : ℕ) (state : State) (lines : List (List ℕ)) → IsSoundState state → OfOk IsSoundRead (raw_from keeps number state lines)
lines_sound keeps number state [] is = is
lines_sound keeps number state (line ∷ lines) is = by (profile_line_step keeps state line) (line_sound keeps state line is) (λ next sound. lines_sound keeps (number + 1) next lines sound)
  where
    by : (step : Result State (List ℕ)) → OfOk IsSoundState step → ((next : State) → IsSoundState next → OfOk IsSoundRead (raw_from keeps (number + 1) next lines))
        → OfOk IsSoundRead (after_line number (λ next. raw_from keeps (number + 1) next lines) step)
    by (Ok next) sound more = more next sound
    by (Err message) sound more = tt

raw_sound : (keeps : Keeps) (text : List ℕ) → OfOk IsSoundRead (raw keeps text)
unfolding raw
raw_sound keeps text = lines_sound keeps 1 start (profile_lines text) (record { apart = tt; has = tt })

pub read_apart : (keeps : Keeps) (text : List ℕ) (read : Named (List (List ℕ × List ℕ))) → raw keeps text ≡ Ok read → IsApart read.names
read_apart keeps text read is = (subst (OfOk IsSoundRead) is (raw_sound keeps text)).apart

-- ## Taking

abbrev without : {X : Type 0} → List ℕ → List (Bor (List ℕ) × X) → List (Bor (List ℕ) × X)
without name es = remove_entry (is_at (λ (key : Bor (List ℕ)). text_cmp name key.now)) es

others_stay : {X : Type 0} (es : List (Bor (List ℕ) × X)) (name other : List ℕ) → is_eq (text_cmp other name) ≡ false → value_under (words_of (without name es)) other ≡ value_under (words_of es) other
others_stay [] name other apart = refl
others_stay {X} (e ∷ es) name other apart = by (is_eq (text_cmp name e.0.now)) refl (others_stay es name other apart)
  where
    by : (b : Bool) → is_eq (text_cmp name e.0.now) ≡ b → value_under (words_of (without name es)) other ≡ value_under (words_of es) other
        → value_under (words_of (cond b es (e ∷ without name es))) other ≡ value_under (words_of (e ∷ es)) other
    by true tied later =
        sym (ap (λ (b : Bool). cond b (Some e.1) (value_under (words_of es) other)) (ap (λ (key : List ℕ). is_eq (text_cmp other key)) (sym (tied_same name e.0.now tied)) ∙ apart))
    by false tied later = ap (λ (found : Option X). cond (is_eq (text_cmp other e.0.now)) (Some e.1) found) later

-- a value that is taken leaves the others
pub removed_others : {X : Type 0} (es now : List (Bor (List ℕ) × X)) (name : List ℕ) → now ≡ without name es → (other : List ℕ) → is_eq (text_cmp other name) ≡ false → value_under (words_of now) other ≡ value_under (words_of es) other
removed_others {X} es now name is other apart = ap (λ (ds : List (Bor (List ℕ) × X)). value_under (words_of ds) other) is ∙ others_stay es name other apart

pub all_of : {X : Type 0} (P Q : X → Type 0) → ((x : X) → P x → Q x) → (xs : List X) → AllByRecursion P xs → AllByRecursion Q xs
all_of P Q more [] all = tt
all_of P Q more (x ∷ xs) all = (more x all.0, all_of P Q more xs all.1)

pub all_always : {X : Type 0} (P : X → Type 0) → ((x : X) → P x) → (xs : List X) → AllByRecursion P xs
all_always P always [] = tt
all_always P always (x ∷ xs) = (always x, all_always P always xs)

-- names with the same values give the same
pub names_alike : (keeps : Keeps) (sections : Sections) (kind : EnvConfigFileKind) (overridden : Bool) (file now : Named (List (List ℕ × List ℕ))) (names : List (List ℕ))
    → AllByRecursion (λ (name : List ℕ). value_under now.values name ≡ value_under file.values name) names → with_names keeps sections kind overridden now names ≡ with_names keeps sections kind overridden file names
names_alike keeps sections kind overridden file now [] same = refl
names_alike keeps sections kind overridden file now (name ∷ names) same =
    ap (λ (found : Option (List (List ℕ × List ℕ))). with_names keeps (with_raw keeps sections kind overridden (heading_of name) (unwrap_or found [])) kind overridden now names) same.0
    ∙ names_alike keeps (with_raw keeps sections kind overridden (heading_of name) (properties_of file name)) kind overridden file now names same.1

-- the first name was merged, and its section taken
pub name_merged : (keeps : Keeps) (before after : Sections) (kind : EnvConfigFileKind) (overridden : Bool) (file now : Named (List (List ℕ × List ℕ))) (name : List ℕ) (names : List (List ℕ))
    → after ≡ with_raw keeps before kind overridden (heading_of name) (properties_of file name) → ((other : List ℕ) → is_eq (text_cmp other name) ≡ false → value_under now.values other ≡ value_under file.values other)
    → IsApart (name ∷ names) → with_names keeps after kind overridden now names ≡ with_names keeps before kind overridden file (name ∷ names)
name_merged keeps before after kind overridden file now name names is stay apart =
    let others = all_of (λ (other : List ℕ). is_eq (text_cmp other name) ≡ false) (λ (other : List ℕ). value_under now.values other ≡ value_under file.values other) stay names apart.0 in
    ap (λ (sections : Sections). with_names keeps sections kind overridden now names) is
    ∙ names_alike keeps (with_raw keeps before kind overridden (heading_of name) (properties_of file name)) kind overridden file now names others

-- what stands for a name beyond the end of a list
abbrev pub no_word : Bor (List ℕ)
no_word = record { ref_ptr = (0, 0); now = [] }

-- the name at an index, and those after it
pub names_front : (items : List (Bor (List ℕ))) (i : ℕ) → i < length items → map word_of (drop i items) ≡ (get_or items i no_word).now ∷ map word_of (drop (i + 1) items)
names_front items i within =
    let front : drop i items ≡ get_or items i no_word ∷ drop (i + 1) items = drop-cons items i no_word within ∙ rw add-one refl in
    ap (map word_of) front
