-- A text spells one target, or none.
use Rattle.std.proofs.Common.{◌≡◌, ◌==◌, ℕ, inl, inr, not, List, [], length, Option, refl, sym, ap, ◌∙◌, subst}
use Rattle.std.specs.Prelude.{if◌then◌else◌, ◌||◌, is_some}
use Rattle.http_uri.specs.Grammar.{path_of, query_of}
use Rattle.http_uri.specs.Uri.{Spells, uri_authority, uri_data, uri_scheme}
use Rattle.http_uri.specs.declared.uri.Uri.{Uri}
use Rattle.http_uri.proofs.Theorems.{Spells_unique}
use Rattle.smithy_http.specs.QueryWriter.{SpellsNoTarget, SpellsTarget}
use Rattle.smithy_http.specs.Target.{IsAuthorityAlone, Target, target_of}
use Rattle.signed_stream.specs.Plan.{TargetSpells, accepted, unaccepted}

-- the target of a scheme, an authority and a path with its query
target_with : Option (List ℕ) → Option (List ℕ) → List ℕ → Target
target_with scheme authority kept = record {
  scheme = scheme;
  authority = authority;
  path = (if not (length kept == 0) || is_some scheme then path_of kept else []);
  query = query_of kept;
}

target_of_parts : (u : Uri) → target_of u ≡ target_with (uri_scheme u) (uri_authority u) (uri_data u)
unfolding target_with
target_of_parts u = refl

-- the URIs that one text spells have one target
one_target : (text : List ℕ) (u v : Uri) → Spells text u → Spells text v → target_of u ≡ target_of v
one_target text u v first second =
    let same = Spells_unique text u v first second in
    target_of_parts u ∙ ap (λ s. target_with s (uri_authority u) (uri_data u)) same.0 ∙ ap (λ a. target_with (uri_scheme v) a (uri_data u)) same.1
    ∙ ap (target_with (uri_scheme v) (uri_authority v)) same.2 ∙ sym (target_of_parts v)

-- no text spells a target and none
spells_one_way : (text : List ℕ) (uri : Uri) → SpellsNoTarget text → SpellsTarget text uri → ⊥
spells_one_way text uri (inl none) spells = none _ _ _ spells.0
spells_one_way text uri (inr other) spells = spells.1 (subst IsAuthorityAlone (one_target text other.0 uri other.1 spells.0) other.2)

-- what a text spells is determined
pub reads_one : (text : List ℕ) (a b : Target) → TargetSpells text (accepted a) → TargetSpells text (accepted b) → a ≡ b
reads_one text a b first second = sym first.2 ∙ one_target text first.0 second.0 first.1.0 second.1.0 ∙ second.2

-- a text that spells a target is accepted
pub reads_one_way : (text : List ℕ) (a : Target) → TargetSpells text unaccepted → TargetSpells text (accepted a) → ⊥
reads_one_way text a first second = spells_one_way text second.0 first second.1
