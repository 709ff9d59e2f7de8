-- What the target of the signed request of a case in query form carries.
use Rattle.std.proofs.Common.{◌≡◌, ℕ, Bool, false, cond, List, [], ◌∷◌, ◌++◌, Option, Some, None, refl, ap, ◌∙◌}
use Rattle.std.specs.Prelude.{bytes_eq, codes}
use Rattle.smithy_core.specs.Civil.{civil_of, stamp}
use Rattle.smithy_core.specs.Moment.{floor_secs}
use Rattle.smithy_core.specs.TextPairs.{named_values}
use Rattle.sigv4.specs.Canonical.{credential, expires_text, joined_names, names, token_pairs}
use Rattle.sigv4.specs.Query.{Pair, decoded}
use Rattle.sigv4.specs.Request.{Case}
use Rattle.sigv4.specs.Signed.{signature_of}
use Rattle.sigv4.proofs.SetLemmas.{bytes_eq-flipped}
use Rattle.request_check.proofs.DecimalLemmas.{expiry_back}
use Rattle.request_check.proofs.NamesLemmas.{signature_digits}
use Rattle.request_check.proofs.QueryFormLemmas as query
use Rattle.presign_check.specs.Parameters.{PresignTexts, StandOnce}
use Rattle.presign_check.specs.Terms.{PresignTerms, ParametersState}

-- ---- a name among pairs

-- pairs that lack a name leave it to those after them
values_behind : (key : List ℕ) (given added : List Pair) → query.AllOther key given → named_values (given ++ added) key ≡ named_values added key
values_behind key [] added others = refl
values_behind key (pair ∷ given) added others =
    λ i. cond (others.0 i) (pair.1 ∷ values_behind key given added others.1 i) (values_behind key given added others.1 i)

-- the token's parameter has another name
none_of_token : (key name : List ℕ) (token : Option (List ℕ)) → bytes_eq key name ≡ false → named_values (token_pairs name token) key ≡ []
none_of_token key name None other = refl
none_of_token key name (Some token) other = ap (λ (b : Bool). cond b (token ∷ []) []) (bytes_eq-flipped name key ∙ other)

with_front : (value : List ℕ) (values : List (List ℕ)) → values ≡ [] → value ∷ values ≡ value ∷ []
with_front value values e = ap (λ (rest : List (List ℕ)). value ∷ rest) e

-- ---- the case

-- its texts
unfoldable pub own_texts : Case → PresignTexts
own_texts c = record {
  algorithm = codes "AWS4-HMAC-SHA256";
  credential = credential c;
  date = stamp c.at;
  expires = expires_text c.settings.expires_in;
  names = joined_names (names c);
  signature = signature_of c;
}

-- what they state
abbrev pub terms_of : Case → ℕ → PresignTerms
terms_of c seconds = record { key_id = c.key_id; at = floor_secs c.at; seconds = seconds }

module _ (c : Case) (signs : query.SignsQuery c) where
  abbrev added : List Pair
  added = query.first_added c signs ∷ query.more_added c signs

  added_is : (key : List ℕ) → ((other : List ℕ) → query.IsFreeKey other (query.token_name c signs) → bytes_eq other key ≡ false)
      → named_values (decoded (query.sent_target c signs)) key ≡ named_values added key
  added_is key differs =
      ap (λ (all : List Pair). named_values all key) (query.decoded_are c signs)
      ∙ values_behind key (decoded c.target) added (query.others_by c.settings key differs (decoded c.target) signs.none)

  token_none : (key : List ℕ) → bytes_eq key (query.token_name c signs) ≡ false → named_values (token_pairs (query.token_name c signs) c.token) key ≡ []
  token_none key other = none_of_token key (query.token_name c signs) c.token other

  free : query.IsFreeName (query.token_name c signs)
  free = query.free c signs

  -- each of its parameters stands once among the pairs of the signed target
  pub stand_once : StandOnce (decoded (query.sent_target c signs)) (own_texts c)
  unfolding own_texts
  stand_once = record {
    algorithm = added_is (codes "X-Amz-Algorithm") (λ other key. key.algorithm) ∙ with_front _ _ (token_none (codes "X-Amz-Algorithm") free.not_algorithm);
    credential = added_is (codes "X-Amz-Credential") (λ other key. key.credential) ∙ with_front _ _ (token_none (codes "X-Amz-Credential") free.not_credential);
    date = added_is (codes "X-Amz-Date") (λ other key. key.date) ∙ with_front _ _ (token_none (codes "X-Amz-Date") free.not_date);
    expires = added_is (codes "X-Amz-Expires") (λ other key. key.expires) ∙ with_front _ _ (token_none (codes "X-Amz-Expires") free.not_expires);
    names = added_is (codes "X-Amz-SignedHeaders") (λ other key. key.names) ∙ with_front _ _ (token_none (codes "X-Amz-SignedHeaders") free.not_names);
    signature = added_is (codes "X-Amz-Signature") (λ other key. key.signature) ∙ with_front _ _ (token_none (codes "X-Amz-Signature") free.not_signature);
  }

  pub tells_own : (seconds : ℕ) → c.settings.expires_in ≡ Some seconds → ParametersState c.signer.region c.signer.name (own_texts c) (terms_of c seconds)
  unfolding own_texts stamp civil_of
  tells_own seconds expiry = record {
    algorithm = refl;
    moment = record { in_years = signs.in_years; whole = refl };
    date = refl;
    credential = query.credential_same c signs;
    expires = expiry_back c.settings.expires_in signs.strings.expiry ∙ expiry;
    signature = signature_digits c;
  }
