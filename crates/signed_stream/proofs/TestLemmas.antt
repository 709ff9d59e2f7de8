-- Which errors the tests of a request give.
use Rattle.std.proofs.Common.{◌≡◌, ℕ, ◌+◌, ◌⊎◌, inl, inr, Bool, true, false, List, [], ◌∷◌, Option, Some, None, refl}
use Rattle.std.specs.Prelude.{if◌then◌else◌, not, ◌&&◌}
use Rattle.std.specs.Option.{option_or}
use Rattle.smithy_http.specs.Target.{Target}
use Rattle.sigv4.specs.Canonical.{has_host, signing_parameters, header_payload}
use Rattle.sigv4.specs.Host.{host_text}
use Rattle.sigv4.specs.Parameters.{is_asterisk, takes_no_more}
use Rattle.sigv4.specs.Query.{Pair}
use Rattle.sigv4.specs.Refusal.{is_name, is_token_name, is_value, unfit, unfit_expiry, unfit_header, unfit_headers, unfit_host, unfit_host_text, unfit_optional, unfit_override, unfit_signed_target, unfit_texts, unfit_token_name, unfit_value, unless, unfit_request}
use Rattle.sigv4.specs.Request.{Case}
use Rattle.sigv4.specs.Settings.{Settings, is_query_form}
use Rattle.sigv4.specs.Signed.{authorization, parameters}
use Rattle.sigv4.specs.declared.error.SigningError.{SigningError}
use Rattle.sigv4.specs.declared.error.SigningError.TheVariants.{InvalidHeaderName, InvalidHeaderValue, InvalidTokenName, InvalidUri, MissingExpires, MissingHost}
use Rattle.sigv4.specs.declared.error.ValuePlace.{ValuePlace}
use Rattle.sigv4.specs.declared.error.ValuePlace.TheVariants.{Header, Host, Token, PayloadHash, Authorization}

-- the errors of the tests but for those of the target
abbrev pub IsPartError : SigningError → Type 0
IsPartError (InvalidHeaderName place) = Unit {0}
IsPartError (InvalidHeaderValue place) = Unit {0}
IsPartError MissingHost = Unit {0}
IsPartError InvalidTokenName = Unit {0}
IsPartError MissingExpires = Unit {0}
IsPartError error = ⊥

-- no error, or one of these
abbrev GivesParts : Option SigningError → Type 0
GivesParts None = Unit {0}
GivesParts (Some error) = IsPartError error

either : (a b : Option SigningError) → GivesParts a → GivesParts b → GivesParts (option_or a b)
either None b first second = second
either (Some error) b first second = first

unless_test : (passes : Bool) (error : SigningError) → IsPartError error → GivesParts (unless passes error)
unless_test true error test = tt
unless_test false error test = test

value_test : (place : ValuePlace) (text : List ℕ) → GivesParts (unfit_value place text)
value_test place text = unless_test (is_value text) (InvalidHeaderValue place) tt

optional_test : (place : ValuePlace) (text : Option (List ℕ)) → GivesParts (unfit_optional place text)
optional_test place None = tt
optional_test place (Some text) = value_test place text

header_test : (place : ℕ) (header : Pair) → GivesParts (unfit_header place header)
header_test place header = either _ _ (unless_test (is_name header.0) (InvalidHeaderName place) tt) (value_test (Header place) header.1)

headers_test : (place : ℕ) (headers : List Pair) → GivesParts (unfit_headers place headers)
headers_test place [] = tt
headers_test place (header ∷ headers) = either _ _ (header_test place header) (headers_test (place + 1) headers)

host_test : (target : Target) (headers : List Pair) → GivesParts (unfit_host target headers)
host_test target headers = by_host (has_host headers)
  where
    by_text : (host : Option (List ℕ)) → GivesParts (unfit_host_text host)
    by_text None = tt
    by_text (Some host) = value_test Host host

    by_host : (given : Bool) → GivesParts (if given then None else unfit_host_text (host_text target))
    by_host true = tt
    by_host false = by_text (host_text target)

token_name_test : (settings : Settings) → GivesParts (unfit_token_name settings)
token_name_test settings = by_name settings.session_token_name_override
  where
    by_name : (name : Option (List ℕ)) → GivesParts (unfit_override settings name)
    by_name None = tt
    by_name (Some name) = unless_test (is_token_name settings name) InvalidTokenName tt

expiry_test : (expires_in : Option ℕ) → GivesParts (unfit_expiry expires_in)
expiry_test None = tt
expiry_test (Some seconds) = tt

texts_test : (c : Case) → GivesParts (unfit_texts c)
texts_test c = by_form (is_query_form c.settings)
  where
    headers : Option SigningError
    headers =
        option_or (unfit_optional Token c.token)
        (option_or (unfit_optional PayloadHash (header_payload c.settings.payload_checksum_kind c.payload)) (unfit_value Authorization (authorization c)))

    by_form : (query : Bool)
        → GivesParts (if query then unfit_expiry c.settings.expires_in
        else option_or (unfit_optional Token c.token)
        (option_or (unfit_optional PayloadHash (header_payload c.settings.payload_checksum_kind c.payload)) (unfit_value Authorization (authorization c))))
    by_form true = expiry_test c.settings.expires_in
    by_form false =
        either _ _ (optional_test Token c.token)
        (either _ _ (optional_test PayloadHash (header_payload c.settings.payload_checksum_kind c.payload)) (value_test Authorization (authorization c)))

-- ## The target

-- a case in query form has parameters, and so `*` takes none of them
asterisk_takes_none : (c : Case) → (is_query_form c.settings && is_asterisk c.target) ≡ true → takes_no_more (parameters c) c.target ≡ true
unfolding parameters signing_parameters
asterisk_takes_none c both = by_form (is_query_form c.settings) refl both
  where
    by_form : (query : Bool) → is_query_form c.settings ≡ query → (query && is_asterisk c.target) ≡ true → takes_no_more (parameters c) c.target ≡ true
    by_form false is both = cc
    by_form true is both = let asterisk : is_asterisk c.target ≡ true = both in rw (is, asterisk) refl

-- a test tells of the target where it takes no parameters of its signature, and else of something else
abbrev pub IsTestError : Case → SigningError → Type 0
IsTestError c error = ((error ≡ InvalidUri) × (takes_no_more (parameters c) c.target ≡ true)) ⊎ IsPartError error

-- no error, or one of these
abbrev GivesTests : Case → Option SigningError → Type 0
GivesTests c None = Unit {0}
GivesTests c (Some error) = IsTestError c error

either_test : (c : Case) (a b : Option SigningError) → GivesTests c a → GivesTests c b → GivesTests c (option_or a b)
either_test c None b first second = second
either_test c (Some error) b first second = first

of_part : (c : Case) (a : Option SigningError) → GivesParts a → GivesTests c a
of_part c None gives = tt
of_part c (Some error) gives = inr gives

of_target : (c : Case) (fails : Bool) → (fails ≡ true → takes_no_more (parameters c) c.target ≡ true) → GivesTests c (unless (not fails) InvalidUri)
of_target c false takes = tt
of_target c true takes = inl (refl, takes refl)

case_test : (c : Case) → GivesTests c (unfit_request c)
unfolding unfit unfit_signed_target
case_test c =
    either_test c _ _
    (either_test c _ _ (of_target c (is_query_form c.settings && is_asterisk c.target) (asterisk_takes_none c))
    (of_part c _ (either _ _ (headers_test 1 c.headers) (either _ _ (host_test c.target c.headers) (either _ _ (token_name_test c.settings) (texts_test c))))))
    (of_target c (takes_no_more (parameters c) c.target) (λ takes. takes))

-- a request is unsigned for one of these
pub unsigned_test : (c : Case) (error : SigningError) → unfit_request c ≡ Some error → IsTestError c error
unsigned_test c error is = let given : GivesTests c (Some error) = rw is at (case_test c) in given
