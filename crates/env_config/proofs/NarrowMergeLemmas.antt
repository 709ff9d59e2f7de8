-- What is kept of the texts gives the values that all of them give.
use Rattle.std.proofs.Common.{◌≡◌, ℕ, Bool, true, false, cond, ◌&&◌, ◌||◌, List, [], ◌∷◌, is_eq, refl, sym, ap, ap₂, subst, ◌∙◌}
use Rattle.std.specs.Prelude.{Option, Some, None, unwrap_or, Result, Ok, Err, bytes_eq, codes}
use Rattle.std.specs.Option.{option_and_then, option_or}
use Rattle.std.specs.Cmp.Lexicographic.{nat_list_cmp_total, nat_list_eq_equiv}
use Rattle.std.specs.List.{filter}
use Rattle.std.proofs.Math.Bool.{or-true}
use Rattle.std.proofs.lemmas.Bool.{false≢true}
use Rattle.std.proofs.lemmas.Map.Text.{is_eq-slice_cmp}
use Rattle.std.proofs.lemmas.Map.Views.{any-filter_same}
use Rattle.env_config.specs.declared.source.EnvConfigFileKind.{EnvConfigFileKind}
use Rattle.env_config.specs.Kept.{has_heading, is_kept_key, keys_in_profile}
use Rattle.env_config.specs.Laws.{value_in}
use Rattle.env_config.specs.Order.{IsRising}
use Rattle.env_config.specs.Raw.{Keeps, everything, properties_of, raw}
use Rattle.env_config.specs.Sections.{FaultyLine, FileText, Heading, Section, Sections, after_file, files_from, has_profile_default, heading_of, is_identifier, is_profile_default, is_taken_from, merged_into, put_identifiers, put_others, section_properties, with_file, with_names, with_raw, with_section}
use Rattle.env_config.specs.Texts.{Named, put, text_cmp, value_under}
use Rattle.env_config.proofs.LaterLemmas.{at_put, both, held}
use Rattle.env_config.proofs.LowerLemmas.{either, tied_same}
use Rattle.env_config.proofs.NarrowLemmas.{AlikePairs, AlikeReads, AlikeSections, found_alike, none_above, raw_alike}

-- texts that are tied
pub tied_is : (x y : List ℕ) → is_eq (text_cmp x y) ≡ bytes_eq y x
tied_is x y = is_eq-slice_cmp x y ∙ nat_list_eq_equiv.symm x y

-- ## The property of a profile

-- the value of a key, where a raw section has one or hasn't
abbrev pub over : List ℕ → Option (List ℕ) → Option (List ℕ) → Option (List ℕ)
over key found before = cond (is_identifier key) (option_or found before) before

choose : (i j t : Bool) (value : List ℕ) (rest before : Option (List ℕ)) → (t ≡ true → j ≡ i) → (t ≡ true → rest ≡ None)
    → let now = cond j (cond t (Some value) before) before in cond i (option_or rest now) now ≡ cond i (option_or (cond t (Some value) rest) before) before
choose i true false value rest before same none = refl
choose i false false value rest before same none = refl
choose true true true value rest before same none = ap (λ (r : Option (List ℕ)). option_or r (Some value)) (none refl)
choose false false true value rest before same none = refl
choose true false true value rest before same none = absurd (false≢true (same refl))
choose false true true value rest before same none = absurd (false≢true (sym (same refl)))

identifiers_give : (properties pairs : List (List ℕ × List ℕ)) (key : List ℕ) → IsRising pairs → value_under (put_identifiers properties pairs) key ≡ over key (value_under pairs key) (value_under properties key)
identifiers_give properties [] key rising = by (is_identifier key)
  where
    by : (b : Bool) → value_under properties key ≡ cond b (value_under properties key) (value_under properties key)
    by true = refl
    by false = refl
identifiers_give properties (pair ∷ pairs) key rising =
    identifiers_give (cond (is_identifier pair.0) (put properties pair.0 pair.1) properties) pairs key rising.1
    ∙ ap (over key (value_under pairs key)) (now_is (is_identifier pair.0))
    ∙ choose (is_identifier key) (is_identifier pair.0) tied pair.1 (value_under pairs key) (value_under properties key)
    (λ is. ap is_identifier (sym (tied_same key pair.0 is)))
    (λ is. ap (value_under pairs) (tied_same key pair.0 is) ∙ none_above pairs pair.0 rising.0)
  where
    tied : Bool
    tied = is_eq (text_cmp key pair.0)

    now_is : (b : Bool) → value_under (cond b (put properties pair.0 pair.1) properties) key ≡ cond b (cond tied (Some pair.1) (value_under properties key)) (value_under properties key)
    now_is true = at_put text_cmp nat_list_cmp_total properties pair.0 pair.1 key
    now_is false = refl

pub merged_gives : (sections : Named Section) (called : List ℕ) (pairs : List (List ℕ × List ℕ)) (name key : List ℕ) → (bytes_eq called name ≡ true → IsRising pairs)
    → value_in (merged_into sections called pairs) name key ≡ cond (bytes_eq called name) (over key (value_under pairs key) (value_in sections name key)) (value_in sections name key)
merged_gives sections called pairs name key rising =
    ap (option_and_then (λ (s : Section). value_under s.properties key)) (at_put text_cmp nat_list_cmp_total sections.values called grown name)
    ∙ by (is_eq (text_cmp name called)) refl
    ∙ ap (λ (b : Bool). cond b (over key (value_under pairs key) (value_in sections name key)) (value_in sections name key)) (tied_is name called)
  where
    known : List (List ℕ × List ℕ)
    known = section_properties (value_under sections.values called)

    grown : Section
    grown = record { name = called; properties = put_identifiers known pairs }

    by : (b : Bool) → is_eq (text_cmp name called) ≡ b
        → option_and_then (λ (s : Section). value_under s.properties key) (cond b (Some grown) (value_under sections.values name)) ≡ cond b (over key (value_under pairs key) (value_in sections name key)) (value_in sections name key)
    by true is =
        identifiers_give known pairs key (rising (sym (tied_is name called) ∙ is))
        ∙ ap (over key (value_under pairs key)) (held (value_under sections.values called) key ∙ ap (λ (k : List ℕ). value_in sections k key) (sym (tied_same name called is)))
    by false is = refl

-- what a raw section makes of the value of a key of a profile
pub profile_gives : (keeps : Keeps) (s : Sections) (prefix : Option (List ℕ)) (called : List ℕ) (pairs : List (List ℕ × List ℕ)) (name key : List ℕ)
    → (has_heading (codes "profile") name (record { prefix = prefix; name = called }) ≡ true → IsRising pairs)
    → value_in (with_section keeps s prefix called pairs).profiles name key
    ≡ cond (has_heading (codes "profile") name (record { prefix = prefix; name = called })) (over key (value_under pairs key) (value_in s.profiles name key)) (value_in s.profiles name key)
profile_gives keeps s None called pairs name key rising = merged_gives s.profiles called pairs name key rising
profile_gives keeps s (Some prefix) called pairs name key rising = by (bytes_eq prefix (codes "profile")) (bytes_eq prefix (codes "sso-session")) rising
  where
    by : (b d : Bool) → (b && bytes_eq called name ≡ true → IsRising pairs)
        → value_in (cond b (record s { profiles = merged_into s.profiles called pairs })
        (cond d (record s { sessions = merged_into s.sessions called pairs }) (record s { others = put_others keeps s.others prefix called pairs }))).profiles name key
        ≡ cond (b && bytes_eq called name) (over key (value_under pairs key) (value_in s.profiles name key)) (value_in s.profiles name key)
    by true d rising = merged_gives s.profiles called pairs name key rising
    by false true rising = refl
    by false false rising = refl

-- ## Values that the kept sections determine

-- the names of the sections that are kept
abbrev pub with_kept_names : Keeps → Sections → EnvConfigFileKind → Bool → Named (List (List ℕ × List ℕ)) → List (List ℕ) → Sections
with_kept_names keeps sections kind overridden file names = with_names keeps sections kind overridden file (filter keeps.section names)

-- sections whose heading passes give the value, and these are kept; `[profile default]` is kept, or doesn't count
pub record IsKeptValue (keeps : Keeps) (goes : Heading → Bool) (at : Sections → Option (List ℕ)) : Type 0 where
  pub kept : (text : List ℕ) → goes (heading_of text) ≡ true → keeps.section text ≡ true
  pub overridden : (sections : Sections) (kind : EnvConfigFileKind) (file : Named (List (List ℕ × List ℕ))) (names : List (List ℕ))
      → with_kept_names keeps sections kind (has_profile_default (filter keeps.section names)) file names ≡ with_kept_names keeps sections kind (has_profile_default names) file names
  pub same : (s t : Sections) (prefix : Option (List ℕ)) (name : List ℕ) (all some : List (List ℕ × List ℕ)) → AlikePairs keeps all some → at t ≡ at s
      → at (with_section keeps t prefix name some) ≡ at (with_section everything s prefix name all)
  pub other : (s : Sections) (prefix : Option (List ℕ)) (name : List ℕ) (pairs : List (List ℕ × List ℕ)) → goes (record { prefix = prefix; name = name }) ≡ false → at (with_section everything s prefix name pairs) ≡ at s

names_same : (keeps : Keeps) (goes : Heading → Bool) (at : Sections → Option (List ℕ)) → IsKeptValue keeps goes at → (kind : EnvConfigFileKind) (overridden : Bool) (all some : Named (List (List ℕ × List ℕ))) → AlikeSections keeps all some
    → (names : List (List ℕ)) (s t : Sections) → at t ≡ at s → at (with_names keeps t kind overridden some (filter keeps.section names)) ≡ at (with_names everything s kind overridden all names)
names_same keeps goes at is kind overridden all some alike [] s t e = e
names_same keeps goes at is kind overridden all some alike (name ∷ names) s t e = by (keeps.section name) refl (names_same keeps goes at is kind overridden all some alike names)
  where
    heading : Heading
    heading = heading_of name

    taken : Bool
    taken = is_taken_from kind overridden heading.prefix heading.name

    next : Keeps → Named (List (List ℕ × List ℕ)) → Sections → Sections
    next keeps file sections = with_raw keeps sections kind overridden heading (properties_of file name)

    passes : keeps.section name ≡ false → (b : Bool) → goes heading ≡ b → b ≡ false
    passes lost false it = refl
    passes lost true it = sym (is.kept name it) ∙ lost

    by : (b : Bool) → keeps.section name ≡ b → ((s t : Sections) → at t ≡ at s → at (with_names keeps t kind overridden some (filter keeps.section names)) ≡ at (with_names everything s kind overridden all names))
        → at (with_names keeps t kind overridden some (cond b (name ∷ filter keeps.section names) (filter keeps.section names))) ≡ at (with_names everything (next everything all s) kind overridden all names)
    by true known more =
        let pairs = found_alike keeps (value_under all.values name) (value_under some.values name) (alike.values name known) in
        more (next everything all s) (next keeps some t)
        (both (λ (x y : Sections). at x ≡ at y) taken (with_section keeps t heading.prefix heading.name (properties_of some name)) t (with_section everything s heading.prefix heading.name (properties_of all name)) s
        (is.same s t heading.prefix heading.name (properties_of all name) (properties_of some name) pairs e) e)
    by false lost more =
        let pairs = properties_of all name in
        more (next everything all s) t
        (either (λ (x : Sections). at t ≡ at x) taken (with_section everything s heading.prefix heading.name pairs) s
        (e ∙ sym (is.other s heading.prefix heading.name pairs (passes lost (goes heading) refl))) e)

file_same : (keeps : Keeps) (goes : Heading → Bool) (at : Sections → Option (List ℕ)) → IsKeptValue keeps goes at → (kind : EnvConfigFileKind) (all some : Named (List (List ℕ × List ℕ))) → AlikeSections keeps all some
    → (s t : Sections) → at t ≡ at s → at (with_file keeps t kind some) ≡ at (with_file everything s kind all)
unfolding with_file
file_same keeps goes at is kind all some alike s t e =
    let P : List (List ℕ) → Type 0 = λ names. at (with_names keeps t kind (has_profile_default names) some names) ≡ at (with_names everything s kind (has_profile_default all.names) all all.names) in
    subst P alike.names
    (ap at (is.overridden t kind some all.names)
    ∙ names_same keeps goes at is kind (has_profile_default all.names) all some alike all.names s t e)

-- equal faults, or equal values
abbrev pub AlikeMerged : (Sections → Option (List ℕ)) → Result Sections FaultyLine → Result Sections FaultyLine → Type 0
AlikeMerged at (Ok all) (Ok some) = at some ≡ at all
AlikeMerged at (Ok all) (Err line) = ⊥
AlikeMerged at (Err line) (Ok some) = ⊥
AlikeMerged at (Err line) (Err other) = other ≡ line

pub files_same : (keeps : Keeps) (goes : Heading → Bool) (at : Sections → Option (List ℕ)) → IsKeptValue keeps goes at → (files : List FileText) (s t : Sections) → at t ≡ at s
    → AlikeMerged at (files_from everything s files) (files_from keeps t files)
files_same keeps goes at is [] s t e = e
files_same keeps goes at is (file ∷ files) s t e = by (raw everything file.contents) (raw keeps file.contents) (raw_alike keeps file.contents) (files_same keeps goes at is files)
  where
    by : (all some : Result (Named (List (List ℕ × List ℕ))) (ℕ × List ℕ)) → AlikeReads keeps all some → ((s t : Sections) → at t ≡ at s → AlikeMerged at (files_from everything s files) (files_from keeps t files))
        → AlikeMerged at (after_file file (λ read. files_from everything (with_file everything s file.kind read) files) all) (after_file file (λ read. files_from keeps (with_file keeps t file.kind read) files) some)
    by (Ok all) (Ok some) alike more = more (with_file everything s file.kind all) (with_file keeps t file.kind some) (file_same keeps goes at is file.kind all some alike s t e)
    by (Ok all) (Err fault) alike more = absurd alike
    by (Err fault) (Ok some) alike more = absurd alike
    by (Err fault) (Err other) alike more = ap (λ (f : ℕ × List ℕ). record { path = unwrap_or file.path []; line_number = f.0; message = f.1 }) alike

-- ## Values of the selected profile

-- where `[profile default]` is kept, it is known to be there
default_known : (keeps : Keeps) → ((text : List ℕ) → is_profile_default (heading_of text).prefix (heading_of text).name ≡ true → keeps.section text ≡ true)
    → (sections : Sections) (kind : EnvConfigFileKind) (file : Named (List (List ℕ × List ℕ))) (names : List (List ℕ))
    → with_kept_names keeps sections kind (has_profile_default (filter keeps.section names)) file names ≡ with_kept_names keeps sections kind (has_profile_default names) file names
default_known keeps kept sections kind file names =
    let test : List ℕ → Bool = λ name. is_profile_default (heading_of name).prefix (heading_of name).name in
    ap (λ (overridden : Bool). with_kept_names keeps sections kind overridden file names) (any-filter_same test keeps.section true kept names)

pub profile_kept : (name : List ℕ) (keys : List (List ℕ)) (key : List ℕ) → is_kept_key keys key ≡ true
    → IsKeptValue (keys_in_profile name keys) (has_heading (codes "profile") name) (λ s. value_in s.profiles name key)
profile_kept name keys key asked = record {
  kept = λ text is. ap (λ (b : Bool). b || is_profile_default (heading_of text).prefix (heading_of text).name) is;
  overridden = default_known (keys_in_profile name keys)
      (λ text is. ap (λ (b : Bool). has_heading (codes "profile") name (heading_of text) || b) is ∙ or-true (has_heading (codes "profile") name (heading_of text)));
  same = λ s t prefix called all some alike e.
      let goes = has_heading (codes "profile") name (record { prefix = prefix; name = called }) in
      profile_gives (keys_in_profile name keys) t prefix called some name key (λ _. alike.rising_some)
      ∙ ap₂ (λ (found before : Option (List ℕ)). cond goes (over key found before) before) (alike.same key asked) e
      ∙ sym (profile_gives everything s prefix called all name key (λ _. alike.rising_all));
  other = λ s prefix called pairs apart.
      let before = value_in s.profiles name key in
      profile_gives everything s prefix called pairs name key (λ is. absurd (false≢true (sym apart ∙ is)))
      ∙ ap (λ (b : Bool). cond b (over key (value_under pairs key) before) before) apart;
}
