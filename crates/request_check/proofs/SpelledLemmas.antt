-- What the target of a signed request spells.
use Rattle.std.proofs.Common.{◌≡◌, ℕ, false, ◌==◌, ◌||◌, cond, not, is_some, length, List, [], ◌∷◌, map, Option, Some, None, inr, refl, sym, ◌∙◌, subst, true≢false}
use Rattle.http_uri.specs.Grammar.{IsForm, path_of, query_of}
use Rattle.http_uri.specs.Uri.{Spells, SpellsNone, uri_authority, uri_data, uri_scheme}
use Rattle.http_uri.specs.declared.uri.Uri.{Uri}
use Rattle.http_uri.proofs.Theorems.{Spells_unique}
use Rattle.smithy_http.specs.QueryWriter.{SpellsTarget, escaped_pair}
use Rattle.smithy_http.specs.Target.{IsAuthorityAlone, Target, target_of}
use Rattle.smithy_http.proofs.QueryLemmas.{pairs_joined}
use Rattle.smithy_http.proofs.TargetLemmas.{pairs_read_back}
use Rattle.sigv4.specs.Parameters.{takes_no_more, target_text_with, with_params}
use Rattle.sigv4.specs.Query.{Pair}
use Rattle.sigv4.proofs.ParameterLemmas.{refused_where}
use Rattle.request_check.proofs.SealLemmas.{absent}

-- ---- a URI of parts

uri_of : (text : List ℕ) (scheme authority : Option (List ℕ)) (kept : List ℕ) → IsForm text scheme authority kept → Uri
uri_of text None None kept form =
    record { scheme = None; authority = None; path_and_query = kept; absolute = λ x e. absurd (absent e); authority_alone = λ n x e. absurd (absent e) }
uri_of text None (Some authority) kept form =
    record { scheme = None; authority = Some authority; path_and_query = kept; absolute = λ x e. absurd (absent e); authority_alone = λ n x e. form.3 }
uri_of text (Some scheme) None kept form = absurd form
uri_of text (Some scheme) (Some authority) kept form =
    record { scheme = Some scheme; authority = Some authority; path_and_query = kept; absolute = λ x e. refl; authority_alone = λ n x e. absurd (absent (sym n)) }

-- a text that spells no URI isn't accepted
pub unaccepted : (text : List ℕ) → ((uri : Uri) → Spells text uri → ⊥) → SpellsNone text
unfolding uri_of
unaccepted text none None None kept is = none (uri_of text None None kept is.1) is
unaccepted text none None (Some authority) kept is = none (uri_of text None (Some authority) kept is.1) is
unaccepted text none (Some scheme) None kept is = is.1
unaccepted text none (Some scheme) (Some authority) kept is = none (uri_of text (Some scheme) (Some authority) kept is.1) is

-- URIs of the same parts are one target
target_by : (u v : Uri) → uri_scheme u ≡ uri_scheme v → uri_authority u ≡ uri_authority v → uri_data u ≡ uri_data v → target_of u ≡ target_of v
target_by u v scheme authority data_same = λ i. record {
  scheme = scheme i;
  authority = authority i;
  path = cond (not (length (data_same i) == 0) || is_some (scheme i)) (path_of (data_same i)) [];
  query = query_of (data_same i);
}

-- ---- a target with parameters

-- a text that was made of a target and parameters spells that target with these
pub parts_read : (given text : List ℕ) (base uri : Uri) (params : List Pair) → SpellsTarget given base → text ≡ target_text_with params (target_of base) given → Spells text uri
    → target_of uri ≡ with_params (target_of base) params
parts_read given text base uri [] spelled same spells =
    let parts = Spells_unique given uri base (subst (λ (t : List ℕ). Spells t uri) same spells) spelled.0 in
    target_by uri base parts.0 parts.1 parts.2
parts_read given text base uri (param ∷ params) spelled same spells =
    pairs_read_back given base uri (param ∷ params) spelled.0 spelled.1 (subst (λ (t : List ℕ). Spells t uri) same spells)

-- and it is accepted, where the target takes these
pub accepted : (given text : List ℕ) (base : Uri) (params : List Pair) → SpellsTarget given base → text ≡ target_text_with params (target_of base) given
    → takes_no_more params (target_of base) ≡ false → SpellsNone text → ⊥
accepted given text base [] spelled same takes none = subst SpellsNone same none (uri_scheme base) (uri_authority base) (uri_data base) spelled.0
accepted given text base (param ∷ params) spelled same takes none =
    true≢false (sym ((refused_where given base param params spelled).0 (inr (subst SpellsNone same none))) ∙ takes)

-- parameters leave the authority and the scheme
pub alone_before : (target : Target) (params : List Pair) → IsAuthorityAlone (with_params target params) → IsAuthorityAlone target
alone_before target [] alone = alone
alone_before target (param ∷ params) alone = subst IsAuthorityAlone (pairs_joined target (escaped_pair param) (map escaped_pair params)) alone
