-- A later file wins key by key.
use Rattle.std.proofs.Common.{◌≡◌, ℕ, Bool, true, false, cond, List, [], ◌∷◌, ◌++◌, Ordering, Less, Equal, Greater, is_eq, refl, sym, ap, ap₂, subst₂, ◌∙◌}
use Rattle.std.specs.Prelude.{Option, Some, None, Result, Ok, Err, bytes_eq, codes, nat_eq, nat_lt, length}
use Rattle.std.specs.Option.{option_and_then, option_or}
use Rattle.std.specs.Ordering.{match_ordering, ordering_reverse}
use Rattle.std.specs.BTreeMap.{insert_entry, is_at}
use Rattle.std.specs.Map.{lookup}
use Rattle.std.specs.Cmp.{IsTotalOrder, Equal-is, on_total, then_total}
use Rattle.std.specs.Cmp.Lexicographic.{nat_list_cmp_total, options_total}
use Rattle.std.specs.List.{after_first, before_first, position_or_len, slice_split}
use Rattle.env_config.specs.declared.source.EnvConfigFileKind.{EnvConfigFileKind}
use Rattle.env_config.specs.Laws.{value_in}
use Rattle.env_config.specs.Line.{is_equals, trimmed}
use Rattle.env_config.specs.Raw.{everything, properties_of, raw}
use Rattle.env_config.specs.Sections.{FileText, Key, Section, Sections, after_file, files_from, has_profile_default, heading_of, is_identifier, is_taken_from, key_cmp, merged_into, no_sections, put_at_key, put_identifiers, put_others, put_sub, put_subs, section_properties, sections, value_at_key, with_file, with_names, with_raw, with_section}
use Rattle.env_config.specs.Texts.{Named, put, text_cmp, value_under}
use Rattle.env_config.proofs.LowerLemmas.{tied_same}

-- ## Choices

chosen : {X : Type 0} (b c : Bool) (v w x : X) → c ≡ b → cond c v x ≡ cond b v (cond c w x)
chosen true c v w x same = ap (λ (d : Bool). cond d v x) same
chosen false c v w x same = ap (λ (d : Bool). cond d v x) same ∙ sym (ap (λ (d : Bool). cond d w x) same)

swapped : {X : Type 0} (b c : Bool) (v w x : X) → (b ≡ true → c ≡ true → ⊥) → cond c w (cond b v x) ≡ cond b v (cond c w x)
swapped true true v w x apart = absurd (apart refl refl)
swapped true false v w x apart = refl
swapped false true v w x apart = refl
swapped false false v w x apart = refl

or_cond : {X : Type 0} (b : Bool) (v : X) (x y u : Option X) → x ≡ option_or y u → cond b (Some v) x ≡ option_or (cond b (Some v) y) u
or_cond true v x y u is = refl
or_cond false v x y u is = is

pub both : {X Y : Type 0} (P : X → Y → Type 0) (b : Bool) (x y : X) (v w : Y) → P x v → P y w → P (cond b x y) (cond b v w)
both P true x y v w here there = here
both P false x y v w here there = there

-- ## Maps

module _ {K X : Type 0} (R : K → K → Ordering) (total : IsTotalOrder R) where
  -- the value at a key, after one was put
  pub at_put : (es : List (K × X)) (key : K) (value : X) (q : K) → lookup (is_at (R q)) (insert_entry R es key value) ≡ cond (is_eq (R q key)) (Some value) (lookup (is_at (R q)) es)
  at_put [] key value q = refl
  at_put (e ∷ es) key value q = by (R key e.0) refl (at_put es key value q)
    where
      rest : Option X
      rest = lookup (is_at (R q)) es

      same : R key e.0 ≡ Equal → R q e.0 ≡ R q key
      same tied = total.antisymm q e.0 ∙ ap ordering_reverse (sym (total.congr key e.0 q tied)) ∙ sym (total.antisymm q key)

      apart : R key e.0 ≡ Greater → is_eq (R q key) ≡ true → is_eq (R q e.0) ≡ true → ⊥
      apart above one other =
          let first : R q key ≡ Equal = (Equal-is (R q key)).0 one in
          let second : R q e.0 ≡ Equal = (Equal-is (R q e.0)).0 other in
          let third : R q e.0 ≡ R key e.0 = total.congr q key e.0 first in
          absurd cc

      by : (o : Ordering) → R key e.0 ≡ o → lookup (is_at (R q)) (insert_entry R es key value) ≡ cond (is_eq (R q key)) (Some value) rest
          → lookup (is_at (R q)) (match_ordering o ((key, value) ∷ e ∷ es) ((e.0, value) ∷ es) (e ∷ insert_entry R es key value)) ≡ cond (is_eq (R q key)) (Some value) (cond (is_eq (R q e.0)) (Some e.1) rest)
      by Less is again = refl
      by Equal is again = chosen (is_eq (R q key)) (is_eq (R q e.0)) (Some value) (Some e.1) rest (ap is_eq (same is))
      by Greater is again =
          ap (λ (x : Option X). cond (is_eq (R q e.0)) (Some e.1) x) again
          ∙ swapped (is_eq (R q key)) (is_eq (R q e.0)) (Some value) (Some e.1) rest (apart is)

  -- a map has what another one has, and else what a third one has
  abbrev pub Above : List (K × X) → List (K × X) → List (K × X) → Type 0
  Above es ds us = (q : K) → lookup (is_at (R q)) es ≡ option_or (lookup (is_at (R q)) ds) (lookup (is_at (R q)) us)

  pub above_put : (es ds us : List (K × X)) (key : K) (value : X) → Above es ds us → Above (insert_entry R es key value) (insert_entry R ds key value) us
  above_put es ds us key value above q =
      let under = lookup (is_at (R q)) us in
      at_put es key value q
      ∙ or_cond (is_eq (R q key)) value (lookup (is_at (R q)) es) (lookup (is_at (R q)) ds) under (above q)
      ∙ ap (λ (y : Option X). option_or y under) (sym (at_put ds key value q))

-- ## Profiles and sessions

abbrev AboveTexts : List (List ℕ × List ℕ) → List (List ℕ × List ℕ) → List (List ℕ × List ℕ) → Type 0
AboveTexts es ds us = (q : List ℕ) → value_under es q ≡ option_or (value_under ds q) (value_under us q)

identifiers_above : (es ds us pairs : List (List ℕ × List ℕ)) → AboveTexts es ds us → AboveTexts (put_identifiers es pairs) (put_identifiers ds pairs) us
identifiers_above es ds us [] above = above
identifiers_above es ds us (pair ∷ pairs) above =
    identifiers_above (cond (is_identifier pair.0) (put es pair.0 pair.1) es) (cond (is_identifier pair.0) (put ds pair.0 pair.1) ds) us pairs
    (both (λ (es ds : List (List ℕ × List ℕ)). AboveTexts es ds us) (is_identifier pair.0) (put es pair.0 pair.1) es (put ds pair.0 pair.1) ds
    (above_put text_cmp nat_list_cmp_total es ds us pair.0 pair.1 above) above)

abbrev AboveIn : Named Section → Named Section → Named Section → Type 0
AboveIn s t u = (name key : List ℕ) → value_in s name key ≡ option_or (value_in t name key) (value_in u name key)

pub held : (section : Option Section) (key : List ℕ) → value_under (section_properties section) key ≡ option_and_then (λ (s : Section). value_under s.properties key) section
held None key = refl
held (Some section) key = refl

merged_above : (s t u : Named Section) (n : List ℕ) (pairs : List (List ℕ × List ℕ)) → AboveIn s t u → AboveIn (merged_into s n pairs) (merged_into t n pairs) u
merged_above s t u n pairs above name key = by (is_eq (text_cmp name n)) refl
  where
    known : Named Section → List (List ℕ × List ℕ)
    known x = section_properties (value_under x.values n)

    grown : Named Section → Section
    grown x = record { name = n; properties = put_identifiers (known x) pairs }

    spread : (b : Bool) (section : Section) (other : Option Section)
        → option_and_then (λ (s : Section). value_under s.properties key) (cond b (Some section) other) ≡ cond b (value_under section.properties key) (option_and_then (λ (s : Section). value_under s.properties key) other)
    spread true section other = refl
    spread false section other = refl

    one : (x : Named Section) (b : Bool) → is_eq (text_cmp name n) ≡ b → value_in (merged_into x n pairs) name key ≡ cond b (value_under (put_identifiers (known x) pairs) key) (value_in x name key)
    one x b is =
        ap (option_and_then (λ (s : Section). value_under s.properties key)) (at_put text_cmp nat_list_cmp_total x.values n (grown x) name)
        ∙ ap (λ (c : Bool). option_and_then (λ (s : Section). value_under s.properties key) (cond c (Some (grown x)) (value_under x.values name))) is
        ∙ spread b (grown x) (value_under x.values name)

    under : AboveTexts (known s) (known t) (known u)
    under q =
        held (value_under s.values n) q ∙ above n q
        ∙ ap₂ option_or (sym (held (value_under t.values n) q)) (sym (held (value_under u.values n) q))

    between : (b : Bool) → is_eq (text_cmp name n) ≡ b → cond b (value_under (put_identifiers (known s) pairs) key) (value_in s name key)
        ≡ option_or (cond b (value_under (put_identifiers (known t) pairs) key) (value_in t name key)) (value_in u name key)
    between true is =
        identifiers_above (known s) (known t) (known u) pairs under key
        ∙ ap (option_or (value_under (put_identifiers (known t) pairs) key)) (held (value_under u.values n) key ∙ ap (λ (k : List ℕ). value_in u k key) (sym (tied_same name n is)))
    between false is = above name key

    by : (b : Bool) → is_eq (text_cmp name n) ≡ b → value_in (merged_into s n pairs) name key ≡ option_or (value_in (merged_into t n pairs) name key) (value_in u name key)
    by b is = one s b is ∙ between b is ∙ ap (λ (y : Option (List ℕ)). option_or y (value_in u name key)) (sym (one t b is))

-- ## Sub-properties

pub key_total : IsTotalOrder key_cmp
key_total =
    then_total (on_total (λ (k : Key). k.section_key) nat_list_cmp_total)
    (then_total (on_total (λ (k : Key). k.section_name) nat_list_cmp_total)
    (then_total (on_total (λ (k : Key). k.property_name) nat_list_cmp_total) (on_total (λ (k : Key). k.sub_property_name) (options_total nat_list_cmp_total))))

abbrev AboveKeys : List (Key × List ℕ) → List (Key × List ℕ) → List (Key × List ℕ) → Type 0
AboveKeys es ds us = (q : Key) → value_at_key es q ≡ option_or (value_at_key ds q) (value_at_key us q)

sub_above : (es ds us : List (Key × List ℕ)) (prefix name key piece : List ℕ) → AboveKeys es ds us → AboveKeys (put_sub everything es prefix name key piece) (put_sub everything ds prefix name key piece) us
sub_above es ds us prefix name key piece above =
    let at : Key = record { section_key = prefix; section_name = name; property_name = key; sub_property_name = Some (trimmed (before_first is_equals piece)) } in
    let value = trimmed (after_first is_equals piece) in
    both (λ (es ds : List (Key × List ℕ)). AboveKeys es ds us) (nat_lt (position_or_len is_equals piece) (length piece)) (put_at_key es at value) es (put_at_key ds at value) ds
    (above_put key_cmp key_total es ds us at value above) above

subs_above : (es ds us : List (Key × List ℕ)) (prefix name key : List ℕ) (pieces : List (List ℕ)) → AboveKeys es ds us → AboveKeys (put_subs everything es prefix name key pieces) (put_subs everything ds prefix name key pieces) us
subs_above es ds us prefix name key [] above = above
subs_above es ds us prefix name key (piece ∷ pieces) above =
    subs_above (put_sub everything es prefix name key piece) (put_sub everything ds prefix name key piece) us prefix name key pieces (sub_above es ds us prefix name key piece above)

others_above : (es ds us : List (Key × List ℕ)) (prefix name : List ℕ) (pairs : List (List ℕ × List ℕ)) → AboveKeys es ds us → AboveKeys (put_others everything es prefix name pairs) (put_others everything ds prefix name pairs) us
others_above es ds us prefix name [] above = above
others_above es ds us prefix name (pair ∷ pairs) above =
    let pieces = slice_split (λ b. nat_eq b 10) pair.1 in
    others_above (cond (is_identifier pair.0) (put_subs everything es prefix name pair.0 pieces) es) (cond (is_identifier pair.0) (put_subs everything ds prefix name pair.0 pieces) ds) us prefix name pairs
    (both (λ (es ds : List (Key × List ℕ)). AboveKeys es ds us) (is_identifier pair.0) (put_subs everything es prefix name pair.0 pieces) es (put_subs everything ds prefix name pair.0 pieces) ds
    (subs_above es ds us prefix name pair.0 pieces above) above)

-- ## Files

record AboveAll (s t u : Sections) : Type 0 where
  pub profiles : (name key : List ℕ) → value_in s.profiles name key ≡ option_or (value_in t.profiles name key) (value_in u.profiles name key)
  pub sessions : (name key : List ℕ) → value_in s.sessions name key ≡ option_or (value_in t.sessions name key) (value_in u.sessions name key)
  pub others : (q : Key) → value_at_key s.others q ≡ option_or (value_at_key t.others q) (value_at_key u.others q)

section_above : (s t u : Sections) (prefix : Option (List ℕ)) (name : List ℕ) (pairs : List (List ℕ × List ℕ)) → AboveAll s t u → AboveAll (with_section everything s prefix name pairs) (with_section everything t prefix name pairs) u
section_above s t u None name pairs above =
    record { profiles = merged_above s.profiles t.profiles u.profiles name pairs above.profiles; sessions = above.sessions; others = above.others }
section_above s t u (Some prefix) name pairs above =
    let profile : Sections → Sections = λ x. record x { profiles = merged_into x.profiles name pairs } in
    let session : Sections → Sections = λ x. record x { sessions = merged_into x.sessions name pairs } in
    let other : Sections → Sections = λ x. record x { others = put_others everything x.others prefix name pairs } in
    let P : Sections → Sections → Type 0 = λ x y. AboveAll x y u in
    let is_session = bytes_eq prefix (codes "sso-session") in
    both P (bytes_eq prefix (codes "profile")) (profile s) (cond is_session (session s) (other s)) (profile t) (cond is_session (session t) (other t))
    (record { profiles = merged_above s.profiles t.profiles u.profiles name pairs above.profiles; sessions = above.sessions; others = above.others })
    (both P is_session (session s) (other s) (session t) (other t)
    (record { profiles = above.profiles; sessions = merged_above s.sessions t.sessions u.sessions name pairs above.sessions; others = above.others })
    (record { profiles = above.profiles; sessions = above.sessions; others = others_above s.others t.others u.others prefix name pairs above.others }))

names_above : (s t u : Sections) (kind : EnvConfigFileKind) (overridden : Bool) (file : Named (List (List ℕ × List ℕ))) (names : List (List ℕ)) → AboveAll s t u
    → AboveAll (with_names everything s kind overridden file names) (with_names everything t kind overridden file names) u
names_above s t u kind overridden file [] above = above
names_above s t u kind overridden file (name ∷ names) above =
    let heading = heading_of name in
    let pairs = properties_of file name in
    let merged : Sections → Sections = λ x. with_section everything x heading.prefix heading.name pairs in
    names_above (with_raw everything s kind overridden heading pairs) (with_raw everything t kind overridden heading pairs) u kind overridden file names
    (both (λ (x y : Sections). AboveAll x y u) (is_taken_from kind overridden heading.prefix heading.name) (merged s) s (merged t) t (section_above s t u heading.prefix heading.name pairs above) above)

file_above : (s t u : Sections) (kind : EnvConfigFileKind) (file : Named (List (List ℕ × List ℕ))) → AboveAll s t u → AboveAll (with_file everything s kind file) (with_file everything t kind file) u
unfolding with_file
file_above s t u kind file above = names_above s t u kind (has_profile_default file.names) file file.names above

ok_same : {X E : Type 0} (r : Result X E) (x y : X) → r ≡ Ok x → r ≡ Ok y → x ≡ y
ok_same r x y one other = cc

-- files go on where the files before them end
pub files_go_on : (s before : Sections) (files more : List FileText) → files_from everything s files ≡ Ok before → files_from everything s (files ++ more) ≡ files_from everything before more
files_go_on s before [] more is = ap (λ (x : Sections). files_from everything x more) (ok_same (files_from everything s []) s before refl is)
files_go_on s before (file ∷ files) more is = by (raw everything file.contents) (λ next over. files_go_on next before files more over) is
  where
    by : (read : Result (Named (List (List ℕ × List ℕ))) (ℕ × List ℕ)) → ((next : Sections) → files_from everything next files ≡ Ok before → files_from everything next (files ++ more) ≡ files_from everything before more)
        → after_file file (λ read. files_from everything (with_file everything s file.kind read) files) read ≡ Ok before → after_file file (λ read. files_from everything (with_file everything s file.kind read) (files ++ more)) read ≡ files_from everything before more
    by (Ok read) goes_on is = goes_on (with_file everything s file.kind read) is
    by (Err fault) goes_on is = absurd cc

last_above : (file : FileText) (before alone after : Sections) (read : Result (Named (List (List ℕ × List ℕ))) (ℕ × List ℕ))
    → after_file file (λ read. files_from everything (with_file everything before file.kind read) []) read ≡ Ok after → after_file file (λ read. files_from everything (with_file everything no_sections file.kind read) []) read ≡ Ok alone → AboveAll after alone before
last_above file before alone after (Ok read) after_is alone_is =
    subst₂ (λ (x y : Sections). AboveAll x y before) (ok_same (files_from everything (with_file everything before file.kind read) []) (with_file everything before file.kind read) after refl after_is) (ok_same (files_from everything (with_file everything no_sections file.kind read) []) (with_file everything no_sections file.kind read) alone refl alone_is)
    (file_above before no_sections before file.kind read (record { profiles = λ name key. refl; sessions = λ name key. refl; others = λ key. refl }))
last_above file before alone after (Err fault) after_is alone_is = absurd cc

later : (files : List FileText) (file : FileText) (before alone after : Sections) → sections files ≡ Ok before → sections (file ∷ []) ≡ Ok alone → sections (files ++ file ∷ []) ≡ Ok after → AboveAll after alone before
unfolding sections
later files file before alone after before_is alone_is after_is =
    last_above file before alone after (raw everything file.contents) (sym (files_go_on no_sections before files (file ∷ []) before_is) ∙ after_is) alone_is

-- ## The law

module _ (files : List FileText) (file : FileText) (before alone after : Sections) where
  pub later_profile : (name key : List ℕ) → sections files ≡ Ok before → sections (file ∷ []) ≡ Ok alone → sections (files ++ file ∷ []) ≡ Ok after
      → value_in after.profiles name key ≡ option_or (value_in alone.profiles name key) (value_in before.profiles name key)
  later_profile name key before_is alone_is after_is = (later files file before alone after before_is alone_is after_is).profiles name key

  pub later_session : (name key : List ℕ) → sections files ≡ Ok before → sections (file ∷ []) ≡ Ok alone → sections (files ++ file ∷ []) ≡ Ok after
      → value_in after.sessions name key ≡ option_or (value_in alone.sessions name key) (value_in before.sessions name key)
  later_session name key before_is alone_is after_is = (later files file before alone after before_is alone_is after_is).sessions name key

  pub later_other : (key : Key) → sections files ≡ Ok before → sections (file ∷ []) ≡ Ok alone → sections (files ++ file ∷ []) ≡ Ok after
      → value_at_key after.others key ≡ option_or (value_at_key alone.others key) (value_at_key before.others key)
  later_other key before_is alone_is after_is = (later files file before alone after before_is alone_is after_is).others key
