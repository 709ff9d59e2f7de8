-- The first test that fails, in the order of the code.
use Rattle.std.proofs.Common.{◌≡◌, ℕ, Bool, true, false, ◌&&◌, cond, List, [], ◌++◌, Option, Some, None, refl, sym, ap, ◌∙◌, append-nil}
use Rattle.std.specs.Prelude.{if◌then◌else◌}
use Rattle.std.specs.Option.{option_or}
use Rattle.sigv4.specs.Canonical.{credential, pairs, signed_token, signing_parameters, token_pairs, token_parameter, header_payload}
use Rattle.sigv4.specs.Query.{Pair, decoded}
use Rattle.sigv4.specs.Refusal.{is_value, unfit, unfit_early_text, unfit_expiry, unfit_headers, unfit_host, unfit_late_texts, unfit_optional, unfit_target, unfit_texts, unfit_token_name, unfit_unhashed, unfit_value, unless}
use Rattle.sigv4.specs.Request.{Case}
use Rattle.sigv4.specs.Settings.{Settings, is_query_form}
use Rattle.sigv4.specs.Signed.{authorization}
use Rattle.sigv4.specs.declared.error.SigningError.{SigningError}
use Rattle.sigv4.specs.declared.error.SigningError.TheVariants.{InvalidHeaderValue}
use Rattle.sigv4.specs.declared.error.ValuePlace.TheVariants.{Authorization, PayloadHash, Token}
use Rattle.sigv4.proofs.FitLemmas.{both_none}
use Rattle.sigv4.proofs.JoinedNamesLemmas.{names-value}
use Rattle.sigv4.proofs.SignatureLemmas.{and-true, authorization-value}

abbrev Refused : Type 0
Refused = Option SigningError

or-none : (refused : Refused) → option_or refused None ≡ refused
or-none None = refl
or-none (Some error) = refl

-- the tests of two forms, each in two steps
by_form : (is_query : Bool) (expiry token rest : Refused)
    → cond is_query expiry (option_or token rest) ≡ option_or (cond is_query expiry token) (cond is_query None rest)
by_form true expiry token rest = sym (or-none expiry)
by_form false expiry token rest = refl

-- in header form the tests of the payload's text and of an authorization
abbrev unfit_late : Case → List ℕ → Refused
unfit_late c text = option_or (unfit_optional PayloadHash (header_payload c.settings.payload_checksum_kind c.payload)) (unfit_value Authorization text)

abbrev late : Case → Refused
late c = if is_query_form c.settings then None else unfit_late c (authorization c)

texts-split : (c : Case) → unfit_texts c ≡ option_or (unfit_early_text c.settings c.token) (late c)
texts-split c =
    by_form (is_query_form c.settings) (unfit_expiry c.settings.expires_in) (unfit_optional Token c.token) (unfit_late c (authorization c))

-- where no test fails that needs no hash, the credential decides on the authorization
late-fit : (c : Case) → unfit_unhashed c.settings c.target c.headers c.token ≡ None → late c ≡ unfit_late_texts c.settings c.payload (credential c)
late-fit c fit = by (is_query_form c.settings) refl
  where
    by : (b : Bool) → is_query_form c.settings ≡ b → cond b None (unfit_late c (authorization c)) ≡ cond b None (unfit_late c (credential c))
    by true form = refl
    by false form =
        let from_headers = both_none (unfit_headers 1 c.headers) _ (both_none (unfit_target c.settings c.target) _ fit).1 in
        let from_name = both_none (unfit_token_name c.settings) _ (both_none (unfit_host c.target c.headers) _ from_headers.1).1 in
        let same = authorization-value c ∙ ap (λ b. is_value (credential c) && b) (names-value c form from_headers.0 from_name.0)
        ∙ and-true (is_value (credential c)) in
        λ i. option_or (unfit_optional PayloadHash (header_payload c.settings.payload_checksum_kind c.payload)) (unless (same i) (InvalidHeaderValue Authorization))

-- five tests, of which the last is made in two steps
five : (target headers host name early late : Refused)
    → option_or target (option_or headers (option_or host (option_or name (option_or early late))))
    ≡ option_or (option_or target (option_or headers (option_or host (option_or name early)))) late
five target headers host name early late = by target headers host name
  where
    by : (target headers host name : Refused) → option_or target (option_or headers (option_or host (option_or name (option_or early late))))
        ≡ option_or (option_or target (option_or headers (option_or host (option_or name early)))) late
    by (Some error) headers host name = refl
    by None (Some error) host name = refl
    by None None (Some error) name = refl
    by None None None (Some error) = refl
    by None None None None = refl

-- the tests that need no hash, and then the others
unfit-split : (c : Case) → unfit c ≡ option_or (unfit_unhashed c.settings c.target c.headers c.token) (late c)
unfolding unfit
unfit-split c =
    ap (λ (last : Refused). option_or (unfit_target c.settings c.target) (option_or (unfit_headers 1 c.headers) (option_or (unfit_host c.target c.headers)
    (option_or (unfit_token_name c.settings) last)))) (texts-split c)
    ∙ five (unfit_target c.settings c.target) (unfit_headers 1 c.headers) (unfit_host c.target c.headers) (unfit_token_name c.settings)
    (unfit_early_text c.settings c.token) (late c)

-- a test that needs no hash fails
pub unfit-early : (c : Case) {settings : Settings} {token : Option (List ℕ)} (error : SigningError) → settings ≡ c.settings → token ≡ c.token
    → unfit_unhashed settings c.target c.headers token ≡ Some error → unfit c ≡ Some error
unfit-early c error d e early =
    unfit-split c ∙ (λ i. option_or (unfit_unhashed (sym d i) c.target c.headers (sym e i)) (late c)) ∙ (λ i. option_or (early i) (late c))

-- no such test fails, and the others have this answer
pub unfit-rest : (c : Case) {settings : Settings} {token : Option (List ℕ)} {payload key : List ℕ} (answer : Option SigningError)
    → settings ≡ c.settings → token ≡ c.token → payload ≡ c.payload → key ≡ credential c
    → unfit_unhashed settings c.target c.headers token ≡ None → unfit_late_texts settings payload key ≡ answer → unfit c ≡ answer
unfit-rest c answer d e f g early rest =
    let fit = (λ i. unfit_unhashed (sym d i) c.target c.headers (sym e i)) ∙ early in
    unfit-split c ∙ (λ i. option_or (fit i) (late c)) ∙ late-fit c fit ∙ (λ i. unfit_late_texts (sym d i) (sym f i) (sym g i)) ∙ rest

-- ---- the pairs that are signed

-- in header form nothing comes after those of the query
by_location : (is_query : Bool) (given more : List Pair) (name : List ℕ) (token : Option (List ℕ))
    → given ++ cond is_query more [] ++ token_pairs name (cond is_query token None) ≡ cond is_query (given ++ more ++ token_pairs name token) given
by_location true given more name token = refl
by_location false given more name token = append-nil (given ++ []) ∙ append-nil given

pub pairs-joined : (c : Case)
    → decoded c.target ++ (if is_query_form c.settings then signing_parameters c else [])
    ++ token_pairs (token_parameter c.settings) (if is_query_form c.settings then signed_token c.settings.session_token_mode c.token else None) ≡ pairs c
unfolding pairs
pairs-joined c =
    by_location (is_query_form c.settings) (decoded c.target) (signing_parameters c) (token_parameter c.settings) (signed_token c.settings.session_token_mode c.token)

-- parameters that are none in header form
pub asked-again : (is_query : Bool) (parameters more : List Pair) → cond is_query (cond is_query parameters [] ++ more) [] ≡ cond is_query (parameters ++ more) []
asked-again true parameters more = refl
asked-again false parameters more = refl
