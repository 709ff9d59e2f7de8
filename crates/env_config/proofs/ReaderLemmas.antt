-- A reader goes on with what all lines give.
use Rattle.std.proofs.Common.{◌≡◌, ℕ, ◌+◌, Bool, true, false, cond, List, [], ◌∷◌, refl, sym, ap, ap₂, subst, ◌∙◌}
use Rattle.std.specs.Prelude.{Option, Some, None, option_map, Result, Ok, Err, OnOk, codes}
use Rattle.std.proofs.lemmas.Bool.{false≢true}
use Rattle.env_config.specs.declared.fault.GrammarFault.{GrammarFault}
use Rattle.env_config.specs.declared.fault.GrammarFault.TheVariants as line
use Rattle.env_config.specs.declared.last_property.LastProperty.{LastProperty}
use Rattle.env_config.specs.declared.reader.OpenSection.{OpenSection}
use Rattle.env_config.specs.declared.reader.Reader.{Reader}
use Rattle.env_config.specs.Fault.{flaw_message, numbered}
use Rattle.env_config.specs.LastProperty.{TakesStep, last_of}
use Rattle.env_config.specs.Raw.{Keeps, Last, Open, State, after_line, continued, continued_or, last_step, opened, profile_line_step, properties_of, put_property, put_section, raw_from, with_last, within_section}
use Rattle.env_config.specs.Reader.{HandsOn, HasHanded, StandsForLines, ReadsAt, ReadsInto, ReadsSection, ReadsStep, Standing, given_step, with_pending}
use Rattle.env_config.specs.Texts.{Named, put, put_named}
use Rattle.env_config.proofs.RawLemmas.{key_kept, property_twice, put_over}

module _ {S : Type 0} (Stands : Standing S) (keeps : Keeps) where
  -- ## The last property

  -- a property that is handed on
  pub put_handed : (name : List ℕ) (is_kept : Bool) (sections : Named (List (List ℕ × List ℕ))) (old now : S) (last : Last) → is_kept ≡ true → keeps.key last.key ≡ true
      → ((sections : Named (List (List ℕ × List ℕ))) → Stands old (Some name) sections → Stands now (Some name) (put_named sections name (put (properties_of sections name) last.key last.value)))
      → HandsOn Stands keeps name is_kept sections old → HandsOn Stands keeps name is_kept (with_pending keeps sections name (Some last)) now
  put_handed name is_kept sections old now last kept key puts hands =
      let before = properties_of sections name in
      let is : with_pending keeps sections name (Some last) ≡ put_named sections name (put before last.key last.value) =
      ap₂ (λ (b d : Bool). cond b (put_named sections name (cond d (put before last.key last.value) before)) sections) (sym hands.kept ∙ kept) key in
      record {
        at = Some name;
        stands = subst (Stands now (Some name)) (sym is) (puts sections (subst (λ (at : Option (List ℕ)). Stands old at sections) (hands.open_now kept) hands.stands));
        kept = hands.kept;
        open_now = λ _. refl;
        settled = put_over keeps sections name (put_property keeps before last) (λ properties. properties);
      }

  -- ## Sections

  section_at : (all : State) (reader : Reader S) (at : OpenSection) → StandsForLines Stands keeps all reader → reader.at ≡ Some at → ReadsSection Stands keeps all reader.sink at
  section_at all reader at reads is = subst (ReadsAt Stands keeps all reader.sink) is reads

  -- the section that is open is closed
  pub section_closed : {E : Type 0} (all : State) (reader : Reader S) (at : OpenSection) (sink : S) (result : Result (Unit {0}) E) → reader.at ≡ Some at
      → ((name : List ℕ) (sections : Named (List (List ℕ × List ℕ))) → HandsOn Stands keeps name at.is_kept sections reader.sink
      → OnOk result (HandsOn Stands keeps name at.is_kept (with_pending keeps sections name (option_map last_of at.last)) sink))
      → StandsForLines Stands keeps all reader → OnOk result (HasHanded Stands all.sections sink)
  section_closed all reader at sink (Err fault) is puts reads = tt
  section_closed all reader at sink (Ok _) is puts reads =
      let section = section_at all reader at reads is in
      let hands = puts section.name section.sections section.hands in
      record { at = hands.at; stands = subst (Stands sink hands.at) (sym (ap (λ (s : State). s.sections) section.state)) hands.stands }

  -- a section that is kept is opened
  pub kept_opens : (all : State) (closed now : S) (name : List ℕ) → HasHanded Stands all.sections closed
      → ((at : Option (List ℕ)) (sections : Named (List (List ℕ × List ℕ))) → Stands closed at sections → Stands now (Some name) (put_named sections name (properties_of sections name)))
      → keeps.section name ≡ true → StandsForLines Stands keeps (opened keeps all name) (record { sink = now; at = Some (record { is_kept = true; last = None }) })
  kept_opens all closed now name handed opens kept =
      let properties = properties_of all.sections name in
      record {
        name = name;
        sections = put_section keeps all.sections name properties;
        hands = record {
          at = Some name;
          stands = subst (Stands now (Some name)) (sym (ap (λ (b : Bool). cond b (put_named all.sections name properties) all.sections) kept)) (opens handed.at all.sections handed.stands);
          kept = sym kept;
          open_now = λ _. refl;
          settled = put_over keeps all.sections name properties (λ properties. properties);
        };
        state = refl;
      }

  -- another section is opened
  pub other_opens : (all : State) (sink : S) (name : List ℕ) → HasHanded Stands all.sections sink → keeps.section name ≡ false
      → StandsForLines Stands keeps (opened keeps all name) (record { sink = sink; at = Some (record { is_kept = false; last = None }) })
  other_opens all sink name handed lost =
      let properties = properties_of all.sections name in
      record {
        name = name;
        sections = put_section keeps all.sections name properties;
        hands = record {
          at = handed.at;
          stands = subst (Stands sink handed.at) (sym (ap (λ (b : Bool). cond b (put_named all.sections name properties) all.sections) lost)) handed.stands;
          kept = sym lost;
          open_now = λ is. absurd (false≢true is);
          settled = put_over keeps all.sections name properties (λ properties. properties);
        };
        state = refl;
      }

  -- ## Properties

  -- a property needs a section
  pub outside : (all : State) (reader : Reader S) (step : Open → Result Last (List ℕ)) → reader.at ≡ None → StandsForLines Stands keeps all reader
      → within_section keeps all all.open_section step ≡ Err (codes "Expected a profile definition")
  outside all reader step is reads = ap (λ (at : Option Open). within_section keeps all at step) (subst (ReadsAt Stands keeps all reader.sink) is reads).none

  -- a property is begun
  pub begun_reads : (all : State) (reader : Reader S) (at : OpenSection) (sink : S) (step : Result Last (List ℕ)) (next : LastProperty) → reader.at ≡ Some at → step ≡ Ok (last_of next)
      → ((name : List ℕ) (sections : Named (List (List ℕ × List ℕ))) → HandsOn Stands keeps name at.is_kept sections reader.sink → HandsOn Stands keeps name at.is_kept (with_pending keeps sections name (option_map last_of at.last)) sink)
      → StandsForLines Stands keeps all reader
      → ReadsStep Stands keeps (within_section keeps all all.open_section (λ _. step)) (record { sink = sink; at = Some (record { is_kept = at.is_kept; last = Some next }) }) (Ok tt)
  begun_reads all reader at sink step next is step_is puts reads =
      let section = section_at all reader at reads is in
      let now : Reader S = record { sink = sink; at = Some (record { is_kept = at.is_kept; last = Some next }) } in
      let hands = puts section.name section.sections section.hands in
      subst (λ (step : Result State (List ℕ)). ReadsStep Stands keeps step now (Ok tt))
      (sym (ap (λ (s : State). within_section keeps all s.open_section (λ _. step)) section.state ∙ ap (last_step keeps all section.name) step_is))
      (record {
        name = section.name;
        sections = all.sections;
        hands = subst (λ (sections : Named (List (List ℕ × List ℕ))). HandsOn Stands keeps section.name at.is_kept sections sink) (sym (ap (λ (s : State). s.sections) section.state)) hands;
        state = refl;
      })

  -- a property goes on
  pub grown_reads : (all : State) (reader : Reader S) (at next : OpenSection) (text : List ℕ) (result : Result (Unit {0}) GrammarFault) → reader.at ≡ Some at → next.is_kept ≡ at.is_kept
      → TakesStep (given_step (continued_or (option_map last_of at.last) text)) (option_map last_of next.last) result → StandsForLines Stands keeps all reader
      → ReadsStep Stands keeps (within_section keeps all all.open_section (λ at. continued_or at.last text)) (record { sink = reader.sink; at = Some next }) result
  grown_reads all reader at next text result is same takes reads =
      subst (λ (step : Result State (List ℕ)). ReadsStep Stands keeps step now result) (sym (ap (λ (s : State). within_section keeps all s.open_section (λ at. continued_or at.last text)) section.state)) (by result takes)
    where
      now : Reader S
      now = record { sink = reader.sink; at = Some next }

      section : ReadsSection Stands keeps all reader.sink at
      section = section_at all reader at reads is

      hands : HandsOn Stands keeps section.name next.is_kept section.sections reader.sink
      hands = subst (λ (b : Bool). HandsOn Stands keeps section.name b section.sections reader.sink) (sym same) section.hands

      given : Option Last → State
      given last = record { sections = with_pending keeps section.sections section.name last; open_section = Some (record { name = section.name; last = last }) }

      last_or : Last → Result (Option Last) (List ℕ) → Option Last
      last_or last (Ok given) = given
      last_or last (Err message) = Some last

      message_or : Result (Option Last) (List ℕ) → Result Last (List ℕ)
      message_or (Ok given) = Err []
      message_or (Err message) = Err message

      grown_is : (last later : Last) → all ≡ given (Some last) → continued last text ≡ Ok later → with_last keeps all section.name later ≡ given (Some later)
      grown_is last later state grows =
          let before = properties_of section.sections section.name in
          ap (λ (s : State). with_last keeps s section.name later) state
          ∙ ap (λ (sections : Named (List (List ℕ × List ℕ))). record { sections = sections; open_section = Some (record { name = section.name; last = Some later }) })
          (put_over keeps section.sections section.name (put_property keeps before last) (λ properties. put_property keeps properties later)
          ∙ ap (put_section keeps section.sections section.name) (property_twice keeps before last later (key_kept last later text grows)))

      taken : (last : Option Last) → all ≡ given last → given_step (continued_or last text) ≡ Ok (option_map last_of next.last) → ReadsStep Stands keeps (last_step keeps all section.name (continued_or last text)) now (Ok tt)
      taken None state takes = absurd cc
      taken (Some last) state takes = stepped (continued last text) refl takes
        where
          stepped : (step : Result Last (List ℕ)) → continued last text ≡ step → given_step step ≡ Ok (option_map last_of next.last) → ReadsStep Stands keeps (last_step keeps all section.name step) now (Ok tt)
          stepped (Err message) grows takes = absurd cc
          stepped (Ok later) grows takes = record {
            name = section.name;
            sections = section.sections;
            hands = hands;
            state = grown_is last later state grows ∙ ap given (ap (last_or later) takes);
          }

      refused : (step : Result Last (List ℕ)) (message : List ℕ) → given_step step ≡ Err message → last_step keeps all section.name step ≡ Err message
      refused (Ok last) message takes = absurd cc
      refused (Err other) message takes = ap (last_step keeps all section.name) (ap message_or takes)

      by : (result : Result (Unit {0}) GrammarFault) → TakesStep (given_step (continued_or (option_map last_of at.last) text)) (option_map last_of next.last) result
          → ReadsStep Stands keeps (last_step keeps all section.name (continued_or (option_map last_of at.last) text)) now result
      by (Ok _) takes = taken (option_map last_of at.last) section.state takes
      by (Err (line.Bad flaw)) takes = refused (continued_or (option_map last_of at.last) text) (flaw_message flaw) takes
      by (Err line.NoMemory) takes = tt

  -- ## Lines

  -- the lines to come, after those that the reader stands for, give what all lines give
  pub record TextReads (number : ℕ) (reader : Reader S) (lines : List (List ℕ)) (read : Result (Named (List (List ℕ × List ℕ))) (ℕ × List ℕ)) : Type 0 where
    pub all : State
    pub reads : StandsForLines Stands keeps all reader
    pub to_come : raw_from keeps number all lines ≡ read

  pub line_reads : (number : ℕ) (reader now : Reader S) (text : List ℕ) (lines : List (List ℕ)) (read : Result (Named (List (List ℕ × List ℕ))) (ℕ × List ℕ)) → TextReads number reader (text ∷ lines) read
      → ((all : State) → StandsForLines Stands keeps all reader → ReadsStep Stands keeps (profile_line_step keeps all text) now (Ok tt)) → TextReads (number + 1) now lines read
  line_reads number reader now text lines read before step = by (profile_line_step keeps before.all text) before.to_come (step before.all before.reads)
    where
      by : (step : Result State (List ℕ)) → after_line number (λ next. raw_from keeps (number + 1) next lines) step ≡ read → ReadsStep Stands keeps step now (Ok tt) → TextReads (number + 1) now lines read
      by (Ok next) to_come reads = record { all = next; reads = reads; to_come = to_come }
      by (Err message) to_come reads = absurd reads

  pub line_fails : (number : ℕ) (reader now : Reader S) (text : List ℕ) (lines : List (List ℕ)) (read : Result (Named (List (List ℕ × List ℕ))) (ℕ × List ℕ)) (fault : GrammarFault) → TextReads number reader (text ∷ lines) read
      → ((all : State) → StandsForLines Stands keeps all reader → ReadsStep Stands keeps (profile_line_step keeps all text) now (Err fault)) → ReadsInto Stands read (Err (numbered number fault))
  line_fails number reader now text lines read (line.Bad flaw) before step = sym before.to_come ∙ ap (after_line number (λ next. raw_from keeps (number + 1) next lines)) (step before.all before.reads)
  line_fails number reader now text lines read line.NoMemory before step = tt

  pub text_ends : (number : ℕ) (reader : Reader S) (lines : List (List ℕ)) (read : Result (Named (List (List ℕ × List ℕ))) (ℕ × List ℕ)) (sink : S) → TextReads number reader lines read → lines ≡ []
      → ((all : State) → StandsForLines Stands keeps all reader → HasHanded Stands all.sections sink) → ReadsInto Stands read (Ok sink)
  text_ends number reader lines read sink before none closed = record { sections = before.all.sections; is = sym before.to_come ∙ ap (raw_from keeps number before.all) none; handed = closed before.all before.reads }
