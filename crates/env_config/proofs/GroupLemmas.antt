-- The properties of other sections, group by group: what is put in a property is put at its key, and a look-up finds it.
use Rattle.std.proofs.Common.{◌≡◌, ◌∙◌, ℕ, true, List, [], map, String, string_bytes, string_cmp, Global, Ordering, Less, Equal, Greater, is_eq, refl, sym, ap, ap₂}
use Rattle.std.specs.Prelude.{Option, Some, None, option_map, unwrap_or, Result, Ok, Err, OnOk, OnErr}
use Rattle.std.specs.Ordering.{ordering_then}
use Rattle.std.specs.Option.{option_and_then, option_cmp}
use Rattle.std.specs.BTreeMap.{BTreeMap, insert_entry, is_at}
use Rattle.std.specs.Cmp.{IsTotalOrder, on_total, then_total}
use Rattle.std.specs.Cmp.Lexicographic.{nat_list_cmp_total}
use Rattle.std.specs.List.Sorted.{IsStrictlySortedBy}
use Rattle.std.specs.Map.{lookup, set_value}
use Rattle.env_config.specs.declared.properties_key.SectionNames.{SectionNames}
use Rattle.env_config.specs.Merge.{HoldsSection}
use Rattle.env_config.specs.Properties.{Groups, Subs, key_at, names_cmp, named_sub, others_in, put_named_sub, put_sub_at, properties_in, spread, sub_at, sub_cmp, subs_in, subs_under}
use Rattle.env_config.specs.PropertiesKey.{names_of}
use Rattle.env_config.specs.Raw.{Keeps}
use Rattle.env_config.specs.Sections.{Key, key_cmp, put_at_key, put_others, put_subs, value_at_key}
use Rattle.env_config.specs.Texts.{put, text_cmp, value_under}
use Rattle.env_config.proofs.LowerLemmas.{tied_same, then_first, then_second}
use Rattle.env_config.proofs.SpreadLemmas.{found_seen, group_at, group_back, group_put, in_group, sorted_seen, through, through_same}
use Rattle.env_config.proofs.TextsLemmas.{entries_at, entries_put}

-- ## Orders

abbrev Part : Type 0
Part = List ℕ × Option (List ℕ)

abbrev pair : List ℕ → Option (List ℕ) → Part
pair property sub = (property, sub)

abbrev part_cmp : Part → Part → Ordering
part_cmp part other = ordering_then (text_cmp part.0 other.0) (sub_cmp part.1 other.1)

pub names_total : IsTotalOrder names_cmp
names_total = then_total (on_total (λ (names : List ℕ × List ℕ). names.0) nat_list_cmp_total) (on_total (λ (names : List ℕ × List ℕ). names.1) nat_list_cmp_total)

names_same : (a c : List ℕ × List ℕ) → is_eq (names_cmp a c) ≡ true → a ≡ c
names_same a c is =
    ap₂ (λ (prefix name : List ℕ). (prefix, name)) (tied_same a.0 c.0 (then_first (text_cmp a.0 c.0) (text_cmp a.1 c.1) is)) (tied_same a.1 c.1 (then_second (text_cmp a.0 c.0) (text_cmp a.1 c.1) is))

then_then : (o p q : Ordering) → ordering_then o (ordering_then p q) ≡ ordering_then (ordering_then o p) q
then_then Less p q = refl
then_then Equal p q = refl
then_then Greater p q = refl

key_parts : (a c : List ℕ × List ℕ) (b d : Part) → key_cmp (key_at a b) (key_at c d) ≡ ordering_then (names_cmp a c) (part_cmp b d)
key_parts a c b d = then_then (text_cmp a.0 c.0) (text_cmp a.1 c.1) (part_cmp b d)

-- ## What is kept

-- the order of names, as the code derives it
abbrev pub own_cmp : SectionNames → SectionNames → Ordering
own_cmp a b = ordering_then (string_cmp a.section_key b.section_key) (string_cmp a.section_name b.section_name)

option_alike : (x y : Option (String Global)) → option_cmp string_cmp x y ≡ sub_cmp (option_map string_bytes x) (option_map string_bytes y)
option_alike None None = refl
option_alike None (Some y) = refl
option_alike (Some x) None = refl
option_alike (Some x) (Some y) = refl

abbrev pub subs_of : List (Option (String Global) × String Global) → Subs
subs_of es = map (λ e. (option_map string_bytes e.0, string_bytes e.1)) es

pub sub_put : (es now : List (Option (String Global) × String Global)) (name : Option (String Global)) (value : String Global) → now ≡ insert_entry (option_cmp string_cmp) es name value
    → subs_of now ≡ put_named_sub (subs_of es) (option_map string_bytes name) (string_bytes value)
sub_put es now name value puts = ap subs_of puts ∙ entries_put (option_cmp string_cmp) sub_cmp (option_map string_bytes) string_bytes option_alike es name value

pub sub_found : (es : List (Option (String Global) × String Global)) (name : Option (String Global)) → option_map string_bytes (lookup (is_at (option_cmp string_cmp name)) es) ≡ named_sub (subs_of es) (option_map string_bytes name)
sub_found es name = entries_at (option_cmp string_cmp name) sub_cmp (option_map string_bytes) string_bytes (option_map string_bytes name) (option_alike name) es

-- ## Groups

abbrev heads : {K X : Type 0} → List (K × X) → List K
heads es = map (λ e. e.0) es

abbrev parts_in : List (List ℕ × Subs) → List (Part × List ℕ)
parts_in properties = spread pair properties

abbrev seen : Groups → List ((List ℕ × List ℕ) × List (Part × List ℕ))
seen groups = map (λ group. (group.0, parts_in group.1)) groups

seen_put : (groups : Groups) (names : List ℕ × List ℕ) (properties : List (List ℕ × Subs)) → seen (insert_entry names_cmp groups names properties) ≡ insert_entry names_cmp (seen groups) names (parts_in properties)
seen_put groups names properties = entries_put names_cmp names_cmp (λ (n : List ℕ × List ℕ). n) parts_in (λ _ _. refl) groups names properties

part_put : (properties : List (List ℕ × Subs)) (property : List ℕ) (subs : Subs) (sub : Option (List ℕ)) (value : List ℕ) → IsStrictlySortedBy text_cmp (heads properties)
    → parts_in (put properties property (put_named_sub subs sub value)) ≡ insert_entry part_cmp (parts_in (put properties property subs)) (property, sub) value
part_put properties property subs sub value sorted = group_put text_cmp sub_cmp part_cmp pair nat_list_cmp_total tied_same (λ a c b d. refl) properties property subs sub value sorted

part_back : (properties : List (List ℕ × Subs)) (property : List ℕ) → IsStrictlySortedBy text_cmp (heads properties) → parts_in (put properties property (subs_under properties property)) ≡ parts_in properties
part_back properties property sorted = group_back text_cmp sub_cmp part_cmp pair nat_list_cmp_total tied_same (λ a c b d. refl) properties property sorted

abbrev IsOrdered : Groups → Type 0
IsOrdered groups = IsStrictlySortedBy names_cmp (heads groups)

abbrev pub properties_under : Groups → List ℕ × List ℕ → List (List ℕ × Subs)
properties_under groups names = unwrap_or (lookup (is_at (names_cmp names)) groups) []

ordered_seen : (groups : Groups) → IsOrdered groups → IsStrictlySortedBy names_cmp (heads (seen groups))
ordered_seen groups sorted = sorted_seen names_cmp names_cmp names_total (names_cmp ([], [])) (λ (n : List ℕ × List ℕ). n) parts_in ([], []) (λ _ _. refl) (λ _. refl) groups sorted

-- the values of all sections, by the properties of one
abbrev pub whole_at : Groups → List ℕ × List ℕ → List (List ℕ × Subs) → List (Key × List ℕ)
whole_at groups names properties = others_in (insert_entry names_cmp groups names properties)

whole_seen : (groups : Groups) (names : List ℕ × List ℕ) (properties : List (List ℕ × Subs)) → whole_at groups names properties ≡ spread key_at (insert_entry names_cmp (seen groups) names (parts_in properties))
whole_seen groups names properties = ap (spread key_at) (seen_put groups names properties)

-- what is put in a property of a section is put among all
pub whole_holds : (groups : Groups) (names : List ℕ × List ℕ) → IsStrictlySortedBy names_cmp (heads groups) → HoldsSection (whole_at groups names) names.0 names.1
whole_holds groups names ordered properties property sorted = (each, back)
  where
    each : (subs : Subs) (sub : Option (List ℕ)) (value : List ℕ)
        → whole_at groups names (put properties property (put_named_sub subs sub value)) ≡ put_at_key (whole_at groups names (put properties property subs)) (key_at names (property, sub)) value
    each subs sub value =
        whole_seen groups names (put properties property (put_named_sub subs sub value))
        ∙ ap (λ (es : List (Part × List ℕ)). spread key_at (insert_entry names_cmp (seen groups) names es)) (part_put properties property subs sub value sorted)
        ∙ group_put names_cmp part_cmp key_cmp key_at names_total names_same key_parts (seen groups) names (parts_in (put properties property subs)) (property, sub) value (ordered_seen groups ordered)
        ∙ ap (λ (es : List (Key × List ℕ)). put_at_key es (key_at names (property, sub)) value) (sym (whole_seen groups names (put properties property subs)))

    back : whole_at groups names (put properties property (subs_under properties property)) ≡ whole_at groups names properties
    back =
        whole_seen groups names (put properties property (subs_under properties property))
        ∙ ap (λ (es : List (Part × List ℕ)). spread key_at (insert_entry names_cmp (seen groups) names es)) (part_back properties property sorted)
        ∙ sym (whole_seen groups names properties)

-- a look-up, as a function sees what it finds
seen_found : (groups : Groups) (names : List ℕ × List ℕ) → option_map parts_in (lookup (is_at (names_cmp names)) groups) ≡ lookup (is_at (names_cmp names)) (seen groups)
seen_found groups names = entries_at (names_cmp names) names_cmp (λ (n : List ℕ × List ℕ). n) parts_in names (λ _. refl) groups

-- a section that is put back, or put with no properties, changes nothing
pub whole_back : (groups : Groups) (names : List ℕ × List ℕ) → IsStrictlySortedBy names_cmp (heads groups) → whole_at groups names (properties_under groups names) ≡ others_in groups
whole_back groups names ordered =
    whole_seen groups names (properties_under groups names)
    ∙ ap (λ (es : List (Part × List ℕ)). spread key_at (insert_entry names_cmp (seen groups) names es)) (by (lookup (is_at (names_cmp names)) groups) (seen_found groups names))
    ∙ group_back names_cmp part_cmp key_cmp key_at names_total names_same key_parts (seen groups) names (ordered_seen groups ordered)
  where
    by : (found : Option (List (List ℕ × Subs))) → option_map parts_in found ≡ lookup (is_at (names_cmp names)) (seen groups) → parts_in (unwrap_or found []) ≡ unwrap_or (lookup (is_at (names_cmp names)) (seen groups)) []
    by None is = ap (λ (found : Option (List (Part × List ℕ))). unwrap_or found []) is
    by (Some properties) is = ap (λ (found : Option (List (Part × List ℕ))). unwrap_or found []) is

-- what is put in a property of a section, as `insert` puts it
pub whole_put : (groups : Groups) (names : List ℕ × List ℕ) (property : List ℕ) (sub : Option (List ℕ)) (value : List ℕ) → IsStrictlySortedBy names_cmp (heads groups) → IsStrictlySortedBy text_cmp (heads (properties_under groups names))
    → whole_at groups names (put_sub_at (properties_under groups names) property sub value) ≡ put_at_key (others_in groups) (key_at names (property, sub)) value
whole_put groups names property sub value ordered sorted =
    let holds = whole_holds groups names ordered (properties_under groups names) property sorted in
    holds.0 (subs_under (properties_under groups names) property) sub value
    ∙ ap (λ (es : List (Key × List ℕ)). put_at_key es (key_at names (property, sub)) value) (holds.1 ∙ whole_back groups names ordered)

-- a look-up among all values is one in the section
pub whole_found : (groups : Groups) (names : List ℕ × List ℕ) (property : List ℕ) (sub : Option (List ℕ)) (found : Option (List (List ℕ × Subs))) → IsStrictlySortedBy names_cmp (heads groups) → found ≡ lookup (is_at (names_cmp names)) groups
    → value_at_key (others_in groups) (key_at names (property, sub)) ≡ in_group part_cmp (property, sub) (option_map parts_in found)
whole_found groups names property sub found ordered is =
    group_at names_cmp part_cmp key_cmp key_at names_total names_same key_parts (seen groups) names (property, sub) (ordered_seen groups ordered)
    ∙ ap (in_group part_cmp (property, sub)) (sym (ap (option_map parts_in) is ∙ seen_found groups names))

-- a look-up in a section is one in the property
pub part_found : (properties : List (List ℕ × Subs)) (property : List ℕ) (sub : Option (List ℕ)) → IsStrictlySortedBy text_cmp (heads properties) → lookup (is_at (part_cmp (property, sub))) (parts_in properties) ≡ sub_at properties property sub
part_found properties property sub sorted = group_at text_cmp sub_cmp part_cmp pair nat_list_cmp_total tied_same (λ a c b d. refl) properties property sub sorted ∙ by (value_under properties property)
  where
    by : (found : Option Subs) → in_group sub_cmp sub found ≡ option_and_then (λ subs. named_sub subs sub) found
    by None = refl
    by (Some subs) = refl

-- ## Maps of strings

abbrev pub properties_of : List (String Global × BTreeMap (Option (String Global)) (String Global)) → List (List ℕ × Subs)
properties_of es = map (λ e. (string_bytes e.0, subs_in e.1)) es

abbrev asked : List ℕ → String Global → Ordering
asked text key = text_cmp text (string_bytes key)

pub property_sorted : (es : List (String Global × BTreeMap (Option (String Global)) (String Global))) → IsStrictlySortedBy string_cmp (heads es) → IsStrictlySortedBy text_cmp (heads (properties_of es))
property_sorted es sorted = sorted_seen string_cmp text_cmp nat_list_cmp_total (asked []) string_bytes subs_in [] (λ _ _. refl) (λ _. refl) es sorted

pub property_found : (es : List (String Global × BTreeMap (Option (String Global)) (String Global))) (text : List ℕ) (found : Option (BTreeMap (Option (String Global)) (String Global))) → found ≡ lookup (is_at (asked text)) es
    → value_under (properties_of es) text ≡ option_map subs_in found
property_found es text found is = found_seen string_cmp text_cmp nat_list_cmp_total (asked text) string_bytes subs_in text (λ _ _. refl) (λ _. refl) es found is

pub property_through : (es now : List (String Global × BTreeMap (Option (String Global)) (String Global))) (text : List ℕ) (old w : BTreeMap (Option (String Global)) (String Global)) → now ≡ set_value (is_at (asked text)) es w
    → IsStrictlySortedBy string_cmp (heads es) → Some old ≡ lookup (is_at (asked text)) es → properties_of now ≡ put (properties_of es) text (subs_in w)
property_through es now text old w is sorted found = through string_cmp text_cmp nat_list_cmp_total (asked text) string_bytes subs_in text (λ _ _. refl) (λ _. refl) es now old w is sorted found

pub property_same : (es now : List (String Global × BTreeMap (Option (String Global)) (String Global))) (text : List ℕ) (old w : BTreeMap (Option (String Global)) (String Global)) → now ≡ set_value (is_at (asked text)) es w
    → Some old ≡ lookup (is_at (asked text)) es → subs_in w ≡ subs_in old → properties_of now ≡ properties_of es
property_same es now text old w is found same = through_same string_cmp text_cmp nat_list_cmp_total (asked text) string_bytes subs_in text (λ _ _. refl) (λ _. refl) es now old w is found same

pub property_put : (es now : List (String Global × BTreeMap (Option (String Global)) (String Global))) (key : String Global) (w : BTreeMap (Option (String Global)) (String Global)) → now ≡ insert_entry string_cmp es key w
    → properties_of now ≡ put (properties_of es) (string_bytes key) (subs_in w)
property_put es now key w is = ap properties_of is ∙ entries_put string_cmp text_cmp string_bytes subs_in (λ _ _. refl) es key w

abbrev pub groups_of : List (SectionNames × BTreeMap (String Global) (BTreeMap (Option (String Global)) (String Global))) → Groups
groups_of es = map (λ e. (names_of e.0, properties_in e.1)) es

pub section_sorted : (es : List (SectionNames × BTreeMap (String Global) (BTreeMap (Option (String Global)) (String Global)))) (key : SectionNames) → IsStrictlySortedBy own_cmp (heads es) → IsStrictlySortedBy names_cmp (heads (groups_of es))
section_sorted es key sorted = sorted_seen own_cmp names_cmp names_total (own_cmp key) names_of properties_in (names_of key) (λ _ _. refl) (λ _. refl) es sorted

pub section_found : (es : List (SectionNames × BTreeMap (String Global) (BTreeMap (Option (String Global)) (String Global)))) (key : SectionNames) (found : Option (BTreeMap (String Global) (BTreeMap (Option (String Global)) (String Global))))
    → found ≡ lookup (is_at (own_cmp key)) es → lookup (is_at (names_cmp (names_of key))) (groups_of es) ≡ option_map properties_in found
section_found es key found is = found_seen own_cmp names_cmp names_total (own_cmp key) names_of properties_in (names_of key) (λ _ _. refl) (λ _. refl) es found is

pub section_through : (es now : List (SectionNames × BTreeMap (String Global) (BTreeMap (Option (String Global)) (String Global)))) (key : SectionNames) (old w : BTreeMap (String Global) (BTreeMap (Option (String Global)) (String Global)))
    → now ≡ set_value (is_at (own_cmp key)) es w → IsStrictlySortedBy own_cmp (heads es) → Some old ≡ lookup (is_at (own_cmp key)) es → groups_of now ≡ insert_entry names_cmp (groups_of es) (names_of key) (properties_in w)
section_through es now key old w is sorted found = through own_cmp names_cmp names_total (own_cmp key) names_of properties_in (names_of key) (λ _ _. refl) (λ _. refl) es now old w is sorted found

pub section_same : (es now : List (SectionNames × BTreeMap (String Global) (BTreeMap (Option (String Global)) (String Global)))) (key : SectionNames) (old w : BTreeMap (String Global) (BTreeMap (Option (String Global)) (String Global)))
    → now ≡ set_value (is_at (own_cmp key)) es w → Some old ≡ lookup (is_at (own_cmp key)) es → properties_in w ≡ properties_in old → groups_of now ≡ groups_of es
section_same es now key old w is found same = through_same own_cmp names_cmp names_total (own_cmp key) names_of properties_in (names_of key) (λ _ _. refl) (λ _. refl) es now old w is found same

pub section_put : (es now : List (SectionNames × BTreeMap (String Global) (BTreeMap (Option (String Global)) (String Global)))) (key : SectionNames) (w : BTreeMap (String Global) (BTreeMap (Option (String Global)) (String Global))) → now ≡ insert_entry own_cmp es key w
    → groups_of now ≡ insert_entry names_cmp (groups_of es) (names_of key) (properties_in w)
section_put es now key w is = ap groups_of is ∙ entries_put own_cmp names_cmp names_of properties_in (λ _ _. refl) es key w

-- ## Answers

pub on_ok : {X E : Type 0} (P Q : Type 0) (result : Result X E) → (P → Q) → OnOk result P → OnOk result Q
on_ok P Q (Ok x) more is = more is
on_ok P Q (Err e) more is = is

pub on_err : {X E : Type 0} (P Q : Type 0) (result : Result X E) → (P → Q) → OnErr result P → OnErr result Q
on_err P Q (Ok x) more is = is
on_err P Q (Err e) more is = more is

-- the sub-properties of a property were put, and those of the section with them
pub filled : (whole : List (List ℕ × Subs) → List (Key × List ℕ)) (prefix name : List ℕ) → HoldsSection whole prefix name → (keeps : Keeps) (view now : List (List ℕ × Subs)) (key : List ℕ) (before after : Subs) (pieces : List (List ℕ))
    → IsStrictlySortedBy text_cmp (heads view) → before ≡ subs_under view key → now ≡ put view key after
    → whole (put view key after) ≡ put_subs keeps (whole (put view key before)) prefix name key pieces → whole now ≡ put_subs keeps (whole view) prefix name key pieces
filled whole prefix name holds keeps view now key before after pieces sorted before_is now_is step =
    ap whole now_is ∙ step ∙ ap (λ (es : List (Key × List ℕ)). put_subs keeps es prefix name key pieces) (ap (λ (subs : Subs). whole (put view key subs)) before_is ∙ (holds view key sorted).1)

-- none were put
pub unfilled : (whole : List (List ℕ × Subs) → List (Key × List ℕ)) (prefix name : List ℕ) → HoldsSection whole prefix name → (keeps : Keeps) (view : List (List ℕ × Subs)) (key : List ℕ) (before after : Subs) (pieces : List (List ℕ))
    → IsStrictlySortedBy text_cmp (heads view) → before ≡ subs_under view key → after ≡ before
    → whole (put view key after) ≡ put_subs keeps (whole (put view key before)) prefix name key pieces → whole view ≡ put_subs keeps (whole view) prefix name key pieces
unfilled whole prefix name holds keeps view key before after pieces sorted before_is after_is step =
    let back = ap (λ (subs : Subs). whole (put view key subs)) before_is ∙ (holds view key sorted).1 in
    sym (ap (λ (subs : Subs). whole (put view key subs)) after_is ∙ back) ∙ step ∙ ap (λ (es : List (Key × List ℕ)). put_subs keeps es prefix name key pieces) back

pub section_filled : (groups now : Groups) (names : List ℕ × List ℕ) (keeps : Keeps) (before after : List (List ℕ × Subs)) (pairs : List (List ℕ × List ℕ)) → IsStrictlySortedBy names_cmp (heads groups) → before ≡ properties_under groups names
    → now ≡ insert_entry names_cmp groups names after → whole_at groups names after ≡ put_others keeps (whole_at groups names before) names.0 names.1 pairs → others_in now ≡ put_others keeps (others_in groups) names.0 names.1 pairs
section_filled groups now names keeps before after pairs ordered before_is now_is step =
    ap others_in now_is ∙ step ∙ ap (λ (es : List (Key × List ℕ)). put_others keeps es names.0 names.1 pairs) (ap (whole_at groups names) before_is ∙ whole_back groups names ordered)

pub section_unfilled : (groups : Groups) (names : List ℕ × List ℕ) (keeps : Keeps) (before after : List (List ℕ × Subs)) (pairs : List (List ℕ × List ℕ)) → IsStrictlySortedBy names_cmp (heads groups) → before ≡ properties_under groups names
    → after ≡ before → whole_at groups names after ≡ put_others keeps (whole_at groups names before) names.0 names.1 pairs → others_in groups ≡ put_others keeps (others_in groups) names.0 names.1 pairs
section_unfilled groups names keeps before after pairs ordered before_is after_is step =
    let back = ap (whole_at groups names) before_is ∙ whole_back groups names ordered in
    sym (ap (whole_at groups names) after_is ∙ back) ∙ step ∙ ap (λ (es : List (Key × List ℕ)). put_others keeps es names.0 names.1 pairs) back

-- ## Copies

pub option_copied_alike : (R : Option (String Global) → Option (String Global) → Type 0) → ((x y : String Global) → R (Some x) (Some y) → string_bytes y ≡ string_bytes x) → ((y : String Global) → R None (Some y) → ⊥)
    → ((x : String Global) → R (Some x) None → ⊥) → (a b : Option (String Global)) → R a b → option_map string_bytes b ≡ option_map string_bytes a
option_copied_alike R some more less None None is = refl
option_copied_alike R some more less None (Some y) is = absurd (more y is)
option_copied_alike R some more less (Some x) None is = absurd (less x is)
option_copied_alike R some more less (Some x) (Some y) is = ap (λ (text : List ℕ). Some text) (some x y is)
