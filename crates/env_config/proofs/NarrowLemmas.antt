-- What is kept of a text is the same as in all that the text holds.
use Rattle.std.proofs.Common.{◌≡◌, ℕ, ◌+◌, Bool, true, false, cond, List, [], ◌∷◌, ◌++◌, Ordering, Less, Equal, Greater, is_eq, refl, sym, ap, ap₂, subst, subst₂, ◌∙◌}
use Rattle.std.specs.Prelude.{Option, Some, None, is_some, unwrap_or, Result, Ok, Err, nat_eq, slice_index}
use Rattle.std.specs.Ordering.{match_ordering, ordering_reverse}
use Rattle.std.specs.Cmp.Lexicographic.{nat_list_cmp_total}
use Rattle.std.specs.List.{AllByRecursion, filter}
use Rattle.std.proofs.lemmas.List.{append-nil}
use Rattle.std.proofs.lemmas.List.Elements.{filter-append}
use Rattle.env_config.specs.Line.{is_blank, is_skipped, profile_lines, property_of, section_name}
use Rattle.env_config.specs.Order.{IsRising}
use Rattle.env_config.specs.Raw.{Keeps, Last, Open, State, after_line, begun_property, continued_or, everything, last_step, profile_line_step, properties_of, put_property, put_section, raw, raw_from, section_step, start, within_section}
use Rattle.env_config.specs.Texts.{Named, put, put_named, text_cmp, value_under}
use Rattle.env_config.proofs.ApartLemmas.{all_of}
use Rattle.env_config.proofs.LaterLemmas.{at_put, both}
use Rattle.env_config.proofs.LowerLemmas.{tied_same}

-- ## Keys in order

put_above : {X : Type 0} (low : List ℕ) (es : List (List ℕ × X)) (key : List ℕ) (value : X) → AllByRecursion (λ (d : List ℕ × X). text_cmp low d.0 ≡ Less) es → text_cmp low key ≡ Less
    → AllByRecursion (λ (d : List ℕ × X). text_cmp low d.0 ≡ Less) (put es key value)
put_above low [] key value all is = (is, tt)
put_above {X} low (e ∷ es) key value all is = by (text_cmp key e.0) (put_above low es key value all.1 is)
  where
    by : (o : Ordering) → AllByRecursion (λ (d : List ℕ × X). text_cmp low d.0 ≡ Less) (put es key value)
        → AllByRecursion (λ (d : List ℕ × X). text_cmp low d.0 ≡ Less) (match_ordering o ((key, value) ∷ e ∷ es) ((e.0, value) ∷ es) (e ∷ put es key value))
    by Less more = (is, all)
    by Equal more = all
    by Greater more = (all.0, more)

pub put_rising : {X : Type 0} (es : List (List ℕ × X)) (key : List ℕ) (value : X) → IsRising es → IsRising (put es key value)
put_rising [] key value is = (tt, tt)
put_rising {X} (e ∷ es) key value is = by (text_cmp key e.0) refl (put_rising es key value is.1)
  where
    by : (o : Ordering) → text_cmp key e.0 ≡ o → IsRising (put es key value) → IsRising (match_ordering o ((key, value) ∷ e ∷ es) ((e.0, value) ∷ es) (e ∷ put es key value))
    by Less below more =
        let above : AllByRecursion (λ (d : List ℕ × X). text_cmp key d.0 ≡ Less) es =
        all_of (λ (d : List ℕ × X). text_cmp e.0 d.0 ≡ Less) (λ (d : List ℕ × X). text_cmp key d.0 ≡ Less) (λ d later. nat_list_cmp_total.trans key e.0 d.0 below later) es is.0 in
        ((below, above), is)
    by Equal tied more = is
    by Greater above more = (put_above e.0 es key value is.0 (nat_list_cmp_total.antisymm e.0 key ∙ ap ordering_reverse above), more)

-- a key below all others isn't among them
pub none_above : (es : List (List ℕ × List ℕ)) (key : List ℕ) → AllByRecursion (λ (d : List ℕ × List ℕ). text_cmp key d.0 ≡ Less) es → value_under es key ≡ None
none_above [] key all = refl
none_above (e ∷ es) key all = ap (λ (o : Ordering). cond (is_eq o) (Some e.1) (value_under es key)) all.0 ∙ none_above es key all.1

-- texts that a test tells apart aren't tied
told_apart : (test : List ℕ → Bool) (x y : List ℕ) → test x ≡ true → test y ≡ false → is_eq (text_cmp x y) ≡ false
told_apart test x y one other = by (is_eq (text_cmp x y)) refl
  where
    by : (b : Bool) → is_eq (text_cmp x y) ≡ b → b ≡ false
    by false is = refl
    by true is = sym one ∙ ap test (tied_same x y is) ∙ other

-- ## Sections

-- some pairs have what all have at the keys that are kept
pub record AlikePairs (keeps : Keeps) (all some : List (List ℕ × List ℕ)) : Type 0 where
  pub rising_all : IsRising all
  pub rising_some : IsRising some
  pub same : (key : List ℕ) → keeps.key key ≡ true → value_under some key ≡ value_under all key

abbrev pub AlikeFound : Keeps → Option (List (List ℕ × List ℕ)) → Option (List (List ℕ × List ℕ)) → Type 0
AlikeFound keeps None None = Unit {0}
AlikeFound keeps None (Some some) = ⊥
AlikeFound keeps (Some all) None = ⊥
AlikeFound keeps (Some all) (Some some) = AlikePairs keeps all some

-- some sections are those of all that are kept
pub record AlikeSections (keeps : Keeps) (all some : Named (List (List ℕ × List ℕ))) : Type 0 where
  pub names : filter keeps.section all.names ≡ some.names
  pub values : (name : List ℕ) → keeps.section name ≡ true → AlikeFound keeps (value_under all.values name) (value_under some.values name)

pub found_alike : (keeps : Keeps) (all some : Option (List (List ℕ × List ℕ))) → AlikeFound keeps all some → AlikePairs keeps (unwrap_or all []) (unwrap_or some [])
found_alike keeps None None alike = record { rising_all = tt; rising_some = tt; same = λ key is. refl }
found_alike keeps None (Some some) alike = absurd alike
found_alike keeps (Some all) None alike = absurd alike
found_alike keeps (Some all) (Some some) alike = alike

property_alike : (keeps : Keeps) (all some : List (List ℕ × List ℕ)) (last : Last) → AlikePairs keeps all some → AlikePairs keeps (put_property everything all last) (put_property keeps some last)
property_alike keeps all some last alike = by (keeps.key last.key) refl
  where
    put_at : (es : List (List ℕ × List ℕ)) (key : List ℕ) → value_under (put es last.key last.value) key ≡ cond (is_eq (text_cmp key last.key)) (Some last.value) (value_under es key)
    put_at es key = at_put text_cmp nat_list_cmp_total es last.key last.value key

    by : (b : Bool) → keeps.key last.key ≡ b → AlikePairs keeps (put all last.key last.value) (cond b (put some last.key last.value) some)
    by true kept = record {
      rising_all = put_rising all last.key last.value alike.rising_all;
      rising_some = put_rising some last.key last.value alike.rising_some;
      same = λ key is. put_at some key ∙ ap (λ (found : Option (List ℕ)). cond (is_eq (text_cmp key last.key)) (Some last.value) found) (alike.same key is) ∙ sym (put_at all key);
    }
    by false kept = record {
      rising_all = put_rising all last.key last.value alike.rising_all;
      rising_some = alike.rising_some;
      same = λ key is. alike.same key is ∙ sym (put_at all key ∙ ap (λ (b : Bool). cond b (Some last.value) (value_under all key)) (told_apart keeps.key key last.key is kept));
    }

section_alike : (keeps : Keeps) (all some : Named (List (List ℕ × List ℕ))) (name : List ℕ) (pairs kept_pairs : List (List ℕ × List ℕ)) → AlikeSections keeps all some
    → (keeps.section name ≡ true → AlikePairs keeps pairs kept_pairs) → AlikeSections keeps (put_section everything all name pairs) (put_section keeps some name kept_pairs)
section_alike keeps all some name pairs kept_pairs alike pairs_alike = by (keeps.section name) refl
  where
    put_at : (es : List (List ℕ × List (List ℕ × List ℕ))) (value : List (List ℕ × List ℕ)) (q : List ℕ) → value_under (put es name value) q ≡ cond (is_eq (text_cmp q name)) (Some value) (value_under es q)
    put_at es value q = at_put text_cmp nat_list_cmp_total es name value q

    -- the names with this one, where it is new
    added : (b : Bool) → keeps.section name ≡ b → filter keeps.section (all.names ++ name ∷ []) ≡ some.names ++ cond b (name ∷ []) []
    added b is = filter-append keeps.section all.names (name ∷ []) ∙ ap₂ (λ (xs ys : List (List ℕ)). xs ++ ys) alike.names (ap (λ (b : Bool). cond b (name ∷ []) []) is)

    kept_names : keeps.section name ≡ true → (a s : Option (List (List ℕ × List ℕ))) → AlikeFound keeps a s
        → filter keeps.section (cond (is_some a) all.names (all.names ++ name ∷ [])) ≡ cond (is_some s) some.names (some.names ++ name ∷ [])
    kept_names is None None found = added true is
    kept_names is None (Some s) found = absurd found
    kept_names is (Some a) None found = absurd found
    kept_names is (Some a) (Some s) found = alike.names

    other_names : keeps.section name ≡ false → (known : Bool) → filter keeps.section (cond known all.names (all.names ++ name ∷ [])) ≡ some.names
    other_names is true = alike.names
    other_names is false = added false is ∙ append-nil some.names

    by : (b : Bool) → keeps.section name ≡ b → AlikeSections keeps (put_named all name pairs) (cond b (put_named some name kept_pairs) some)
    by true is = record {
      names = kept_names is (value_under all.values name) (value_under some.values name) (alike.values name is);
      values = λ q kept. subst₂ (AlikeFound keeps) (sym (put_at all.values pairs q)) (sym (put_at some.values kept_pairs q))
          (both (AlikeFound keeps) (is_eq (text_cmp q name)) (Some pairs) (value_under all.values q) (Some kept_pairs) (value_under some.values q) (pairs_alike is) (alike.values q kept));
    }
    by false is = record {
      names = other_names is (is_some (value_under all.values name));
      values = λ q kept. subst (λ (found : Option (List (List ℕ × List ℕ))). AlikeFound keeps found (value_under some.values q))
          (sym (put_at all.values pairs q ∙ ap (λ (b : Bool). cond b (Some pairs) (value_under all.values q)) (told_apart keeps.section q name kept is))) (alike.values q kept);
    }

-- ## Lines

record AlikeStates (keeps : Keeps) (all some : State) : Type 0 where
  pub sections : AlikeSections keeps all.sections some.sections
  pub at : some.open_section ≡ all.open_section

abbrev AlikeSteps : Keeps → Result State (List ℕ) → Result State (List ℕ) → Type 0
AlikeSteps keeps (Ok all) (Ok some) = AlikeStates keeps all some
AlikeSteps keeps (Ok all) (Err message) = ⊥
AlikeSteps keeps (Err message) (Ok some) = ⊥
AlikeSteps keeps (Err message) (Err other) = other ≡ message

properties_alike : (keeps : Keeps) (all some : Named (List (List ℕ × List ℕ))) (name : List ℕ) → AlikeSections keeps all some → keeps.section name ≡ true → AlikePairs keeps (properties_of all name) (properties_of some name)
properties_alike keeps all some name alike is = found_alike keeps (value_under all.values name) (value_under some.values name) (alike.values name is)

opened_alike : (keeps : Keeps) (all some : State) (name : Option (List ℕ)) → AlikeStates keeps all some → AlikeSteps keeps (section_step everything all name) (section_step keeps some name)
opened_alike keeps all some None alike = refl
opened_alike keeps all some (Some name) alike = record {
  sections = section_alike keeps all.sections some.sections name (properties_of all.sections name) (properties_of some.sections name) alike.sections (properties_alike keeps all.sections some.sections name alike.sections);
  at = refl;
}

last_alike : (keeps : Keeps) (all some : State) (name : List ℕ) (step : Result Last (List ℕ)) → AlikeStates keeps all some → AlikeSteps keeps (last_step everything all name step) (last_step keeps some name step)
last_alike keeps all some name (Err message) alike = refl
last_alike keeps all some name (Ok last) alike = record {
  sections = section_alike keeps all.sections some.sections name (put_property everything (properties_of all.sections name) last) (put_property keeps (properties_of some.sections name) last) alike.sections
      (λ is. property_alike keeps (properties_of all.sections name) (properties_of some.sections name) last (properties_alike keeps all.sections some.sections name alike.sections is));
  at = refl;
}

within_alike : (keeps : Keeps) (all some : State) (step : Open → Result Last (List ℕ)) → AlikeStates keeps all some → AlikeSteps keeps (within_section everything all all.open_section step) (within_section keeps some some.open_section step)
within_alike keeps all some step alike = subst (λ (at : Option Open). AlikeSteps keeps (within_section everything all all.open_section step) (within_section keeps some at step)) (sym alike.at) (by all.open_section)
  where
    by : (at : Option Open) → AlikeSteps keeps (within_section everything all at step) (within_section keeps some at step)
    by None = refl
    by (Some at) = last_alike keeps all some at.name (step at) alike

line_alike : (keeps : Keeps) (all some : State) (line : List ℕ) → AlikeStates keeps all some → AlikeSteps keeps (profile_line_step everything all line) (profile_line_step keeps some line)
unfolding profile_line_step
line_alike keeps all some line alike =
    let P : Result State (List ℕ) → Result State (List ℕ) → Type 0 = AlikeSteps keeps in
    let more : Keeps → State → Result State (List ℕ) = λ k s. within_section k s s.open_section (λ at. continued_or at.last line) in
    let new : Keeps → State → Result State (List ℕ) = λ k s. within_section k s s.open_section (λ _. begun_property (property_of line)) in
    let opens : Keeps → State → Result State (List ℕ) = λ k s. section_step k s (section_name line) in
    let later : Keeps → State → Result State (List ℕ) = λ k s. cond (is_blank (slice_index line 0)) (more k s) (new k s) in
    let marked : Keeps → State → Result State (List ℕ) = λ k s. cond (nat_eq (slice_index line 0) 91) (opens k s) (later k s) in
    both P (is_skipped line) (Ok all) (marked everything all) (Ok some) (marked keeps some) alike
    (both P (nat_eq (slice_index line 0) 91) (opens everything all) (later everything all) (opens keeps some) (later keeps some) (opened_alike keeps all some (section_name line) alike)
    (both P (is_blank (slice_index line 0)) (more everything all) (new everything all) (more keeps some) (new keeps some)
    (within_alike keeps all some (λ at. continued_or at.last line) alike)
    (within_alike keeps all some (λ _. begun_property (property_of line)) alike)))

-- equal faults, or the sections of all that are kept
abbrev pub AlikeReads : Keeps → Result (Named (List (List ℕ × List ℕ))) (ℕ × List ℕ) → Result (Named (List (List ℕ × List ℕ))) (ℕ × List ℕ) → Type 0
AlikeReads keeps (Ok all) (Ok some) = AlikeSections keeps all some
AlikeReads keeps (Ok all) (Err fault) = ⊥
AlikeReads keeps (Err fault) (Ok some) = ⊥
AlikeReads keeps (Err fault) (Err other) = other ≡ fault

lines_alike : (keeps : Keeps) (number : ℕ) (all some : State) (lines : List (List ℕ)) → AlikeStates keeps all some → AlikeReads keeps (raw_from everything number all lines) (raw_from keeps number some lines)
lines_alike keeps number all some [] alike = alike.sections
lines_alike keeps number all some (line ∷ lines) alike =
    by (profile_line_step everything all line) (profile_line_step keeps some line) (line_alike keeps all some line alike) (λ next other steps. lines_alike keeps (number + 1) next other lines steps)
  where
    by : (step other : Result State (List ℕ)) → AlikeSteps keeps step other
        → ((all some : State) → AlikeStates keeps all some → AlikeReads keeps (raw_from everything (number + 1) all lines) (raw_from keeps (number + 1) some lines))
        → AlikeReads keeps (after_line number (λ next. raw_from everything (number + 1) next lines) step) (after_line number (λ next. raw_from keeps (number + 1) next lines) other)
    by (Ok next) (Ok other) steps more = more next other steps
    by (Ok next) (Err message) steps more = absurd steps
    by (Err message) (Ok other) steps more = absurd steps
    by (Err message) (Err other) steps more = ap (λ (m : List ℕ). (number, m)) steps

pub raw_alike : (keeps : Keeps) (text : List ℕ) → AlikeReads keeps (raw everything text) (raw keeps text)
unfolding raw
raw_alike keeps text = lines_alike keeps 1 start start (profile_lines text) (record { sections = record { names = refl; values = λ name is. tt }; at = refl })
