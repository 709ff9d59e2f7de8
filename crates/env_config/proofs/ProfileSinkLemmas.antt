-- The sink for a profile takes sections and properties.
use Rattle.std.proofs.Common.{◌≡◌, ℕ, List, refl, sym, ap, subst, ◌∙◌}
use Rattle.std.specs.Prelude.{Option, Some, None, Result, Ok, Err, OnOk}
use Rattle.env_config.specs.declared.heading.HeadingForm.{HeadingForm}
use Rattle.env_config.specs.declared.heading.HeadingForm.TheVariants.{Bare, Prefixed}
use Rattle.env_config.specs.declared.profile_sink.ProfileSink.{ProfileSink}
use Rattle.env_config.specs.Latest.{Latest, group_of, put_latest, with_place}
use Rattle.env_config.specs.ProfileSink.{IsLatest, ReadsLatest, StandsForProfile}
use Rattle.env_config.specs.Raw.{properties_of}
use Rattle.env_config.specs.Reader.{IsReadInto}
use Rattle.env_config.specs.Sections.{heading_of}
use Rattle.env_config.specs.Texts.{Named, put, put_named, value_under}
use Rattle.env_config.proofs.LatestLemmas.{latest_last, latest_opened, latest_put_in}

-- a section is opened at its place
pub section_opens : (profile name : List ℕ) (at : Option (List ℕ)) (sections : Named (List (List ℕ × List ℕ))) (old now : ProfileSink) → StandsForProfile old profile at sections → now.profile.now ≡ old.profile.now
    → now.latest ≡ with_place old.latest name → value_under now.latest.places name ≡ Some now.place → now.group ≡ group_of now.profile.now (heading_of name)
    → StandsForProfile now profile (Some name) (put_named sections name (properties_of sections name))
section_opens profile name at sections old now stands same latest_is place group_is =
    let asked : now.profile.now ≡ profile = same ∙ stands.asked in
    record {
      asked = asked;
      placed = (group_is ∙ ap (λ (p : List ℕ). group_of p (heading_of name)) asked, place);
      latest = subst (IsLatest profile (put_named sections name (properties_of sections name))) (sym latest_is) (latest_opened profile sections old.latest name stands.latest);
    }

places_stay : (latest : Latest) (group : HeadingForm) (place : ℕ) (key value : List ℕ) → (put_latest latest group place key value).places ≡ latest.places
places_stay latest Bare place key value = refl
places_stay latest Prefixed place key value = refl

module _ (profile name key value : List ℕ) (sections : Named (List (List ℕ × List ℕ))) (old : ProfileSink) (stands : StandsForProfile old profile (Some name) sections) where
  put_as : (group : Option HeadingForm) → old.group ≡ group
      → IsLatest profile (put_named sections name (put (properties_of sections name) key value)) (latest_put_in profile sections old.latest name old.place (key, value) group)
  put_as group is =
      subst (λ (g : Option HeadingForm). IsLatest profile (put_named sections name (put (properties_of sections name) key value)) (latest_put_in profile sections old.latest name old.place (key, value) g)) (sym stands.placed.0 ∙ is)
      (latest_last profile sections old.latest name old.place (key, value) stands.latest stands.placed.1)

  -- a property of the profile
  pub value_stands : {E : Type 0} (now : Latest) (group : HeadingForm) (result : Result (Unit {0}) E) → old.group ≡ Some group → OnOk result (now ≡ put_latest old.latest group old.place key value)
      → OnOk result (StandsForProfile (record old { latest = now }) profile (Some name) (put_named sections name (put (properties_of sections name) key value)))
  value_stands now group (Err fault) is puts = tt
  value_stands now group (Ok _) is puts = record {
    asked = stands.asked;
    placed = (stands.placed.0, ap (λ (l : Latest). value_under l.places name) puts ∙ ap (λ (places : List (List ℕ × ℕ)). value_under places name) (places_stay old.latest group old.place key value) ∙ stands.placed.1);
    latest = subst (IsLatest profile (put_named sections name (put (properties_of sections name) key value))) (sym puts) (put_as (Some group) is);
  }

  -- another property
  pub value_passes : old.group ≡ None → StandsForProfile old profile (Some name) (put_named sections name (put (properties_of sections name) key value))
  value_passes is = record { asked = stands.asked; placed = stands.placed; latest = put_as None is }

-- the values, where the text is over
pub latest_read : (profile : List ℕ) (read : Result (Named (List (List ℕ × List ℕ))) (ℕ × List ℕ)) (sink : ProfileSink) (latest : Latest) → IsReadInto (λ s. StandsForProfile s profile) read sink → latest ≡ sink.latest
    → ReadsLatest profile read (Ok latest)
latest_read profile read sink latest reads is =
    subst (λ (r : Result (Named (List (List ℕ × List ℕ))) (ℕ × List ℕ)). ReadsLatest profile r (Ok latest)) (sym reads.is)
    (subst (IsLatest profile reads.sections) (sym is) reads.handed.stands.latest)
