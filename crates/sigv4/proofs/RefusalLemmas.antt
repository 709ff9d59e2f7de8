-- Tests of names and values of headers.
use Rattle.std.proofs.Common.{◌≡◌, ℕ, Bool, true, false, cond, ◌&&◌, List, [], ◌∷◌, length, Option, Some, None, is_some, refl, sym, ◌∙◌}
use Rattle.std.specs.Prelude.{IsSome, IsTrue, bytes_eq, ◌↔◌}
use Rattle.std.specs.Option.{option_or}
use Rattle.std.proofs.lemmas.Bool.{false≢true, le-leb, lt-ltb}
use Rattle.std.proofs.lemmas.List.Sums.{AllPass-from_list_all, list_all-from_AllPass}
use Rattle.std.proofs.lemmas.Slice.Eq.{bytes_eq-Decides}
use Rattle.http_header.specs.FieldName.{IsFieldName}
use Rattle.http_header.specs.FieldValue.{IsFieldValue}
use Rattle.http_header.specs.Token.{is_token_byte, is_value_byte, token_test}
use Rattle.http_header.proofs.TokenLemmas.{IsFieldName-from_test}
use Rattle.smithy_core.specs.TextPairs.{AreLower, first_value, lower, value_if}
use Rattle.smithy_http.specs.Target.{Target}
use Rattle.sigv4.specs.Canonical.{given_headers}
use Rattle.sigv4.specs.Query.{Pair}
use Rattle.sigv4.specs.Refusal.{is_name, is_value, unfit_signed_target}
use Rattle.sigv4.specs.Trim.{trim_all}
use Rattle.sigv4.specs.EventStream.{unsignable}
use Rattle.sigv4.specs.Parameters.{takes_no_more}
use Rattle.sigv4.specs.Request.{Case, identity_of, request_case}
use Rattle.sigv4.specs.Signed.{parameters}
use Rattle.sigv4.specs.SigningParams.{params_time}
use Rattle.sigv4.specs.declared.error.SigningError.TheVariants.{InvalidUri}
use Rattle.sigv4.specs.declared.request.SignableRequest.{SignableRequest}
use Rattle.sigv4.specs.declared.signing_params.SigningParams.{SigningParams}
use Rattle.sigv4.specs.declared.signing_params.SigningParams.TheVariants.{V4}

-- a test that decides a fact is the one that decides it
pub same_test : {P : Type 0} (a b : Bool) → (IsTrue a ↔ P) → (IsTrue b → P) → (P → IsTrue b) → a ≡ b
same_test true b is gives tests = sym (tests (is.0 refl))
same_test false true is gives tests = absurd (false≢true (is.1 (gives refl)))
same_test false false is gives tests = refl

name-test : (name : List ℕ) → IsFieldName name → IsTrue (is_name name)
unfolding is_token_byte
name-test name is = λ i. (lt-ltb 0 (length name) is.0.0 i && list_all-from_AllPass token_test name is.0.1 i) && le-leb (length name) 65535 is.1 i

pub decides-name : (name : List ℕ) (b : Bool) → (IsTrue b ↔ IsFieldName name) → b ≡ is_name name
decides-name name b is = same_test b (is_name name) is (IsFieldName-from_test name) (name-test name)

pub decides-value : (text : List ℕ) (b : Bool) → (IsTrue b ↔ IsFieldValue text) → b ≡ is_value text
decides-value text b is = same_test b (is_value text) is (AllPass-from_list_all is_value_byte text) (list_all-from_AllPass is_value_byte text)

-- texts that are the same in lower case
pub decides-text : (a b : List ℕ) (r : Bool) → (IsTrue r ↔ (a ≡ b)) → r ≡ bytes_eq a b
decides-text a b r is = same_test r (bytes_eq a b) is ((bytes_eq-Decides a b).0) ((bytes_eq-Decides a b).1)

-- headers with names in lower case have a name where the given headers have it
value-given : (pair : Pair) (name : List ℕ) → lower pair.0 ≡ pair.0 → (rest all : Option (List ℕ)) → is_some rest ≡ is_some all
    → is_some (option_or (value_if (lower pair.0, trim_all pair.1) name) rest) ≡ is_some (option_or (value_if pair name) all)
value-given pair name same rest all again =
    (λ i. is_some (option_or (value_if (same i, trim_all pair.1) name) rest)) ∙ by (bytes_eq pair.0 name)
  where
    by : (b : Bool) → is_some (option_or (cond b (Some (trim_all pair.1)) None) rest) ≡ is_some (option_or (cond b (Some pair.1) None) all)
    by true = refl
    by false = again

pub first-given : (headers : List Pair) (name : List ℕ) → AreLower headers → is_some (first_value (given_headers headers) name) ≡ is_some (first_value headers name)
first-given [] name lower = refl
first-given (header ∷ headers) name lower =
    value-given header name lower.0 (first_value (given_headers headers) name) (first_value headers name) (first-given headers name lower.1)

-- a test whether there is a value
pub decides-some : (value : Option (List ℕ)) (r : Bool) → (IsTrue r ↔ IsSome value) → r ≡ is_some value
decides-some value r is = same_test r (is_some value) is (λ holds. holds) (λ holds. holds)

-- who signs by parameters signs the case of a request
pub case_able : (params : SigningParams) (signable : SignableRequest) → unsignable (identity_of params) (params_time params) ≡ None
    → unsignable (identity_of params) (request_case signable params).at ≡ None
case_able (V4 params) signable able = able

-- a target takes the parameters of a case exactly where this test passes
pub taken : (c : Case) (target : Target) (made : List Pair) → c.target ≡ target → made ≡ parameters c → takes_no_more made target ≡ false → unfit_signed_target c ≡ None
unfolding unfit_signed_target
taken c target made is given takes = rw (← given, is, takes) refl

pub not_taken : (c : Case) (target : Target) (made : List Pair) → c.target ≡ target → made ≡ parameters c → takes_no_more made target ≡ true
    → unfit_signed_target c ≡ Some InvalidUri
unfolding unfit_signed_target
not_taken c target made is given takes = rw (← given, is, takes) refl
