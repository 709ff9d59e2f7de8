-- Headers that are within their grammars.
use Rattle.std.proofs.Common.{◌≡◌, ℕ, ◌+◌, ◌/◌, ◌%◌, Bool, true, false, ◌&&◌, cond, not, List, [], ◌∷◌, ◌++◌, Option, Some, None, is_some, unwrap_or, refl, sym, ap, ◌∙◌, true≢false, arith}
use Rattle.std.specs.Prelude.{bytes_eq, codes}
use Rattle.std.specs.List.{AllByRecursion}
use Rattle.std.specs.Option.{option_or}
use Rattle.std.proofs.lemmas.Bool.{agree_below_at, and_parts, or_parts}
use Rattle.http_header.specs.Token.{is_value_byte}
use Rattle.smithy_core.specs.Civil.{civil_of, stamp}
use Rattle.smithy_core.specs.CivilText.{date_of, stamp_of, two_digits}
use Rattle.smithy_core.specs.Moment.{Instant}
use Rattle.smithy_core.specs.TextPairs.{inserted, lower, without}
use Rattle.sigv4.specs.Canonical.{token_header}
use Rattle.sigv4.specs.Instructions.{Instruction, with_instructions}
use Rattle.sigv4.specs.Query.{Pair}
use Rattle.sigv4.specs.Refusal.{is_lower_name, is_name, is_reserved, is_token_name, is_value, unfit_header, unfit_headers, unfit_optional, unfit_override, unfit_value, unless}
use Rattle.sigv4.specs.Settings.{Settings, is_query_form}
use Rattle.sigv4.specs.Signed.{instructions_for}
use Rattle.sigv4.specs.declared.error.SigningError.{SigningError}
use Rattle.sigv4.specs.declared.error.SigningError.TheVariants.{InvalidHeaderName, InvalidHeaderValue, InvalidTokenName}
use Rattle.sigv4.specs.declared.error.ValuePlace.TheVariants.{Header, PayloadHash, Token}
use Rattle.sigv4.proofs.InsertedLemmas.{same_name}

-- a test that gives no error passes
pub passed : (b : Bool) (error : SigningError) → unless b error ≡ None → b ≡ true
passed true error e = refl
passed false error e = absurd (true≢false (ap is_some e))

-- with neither of two errors
pub both_none : {A : Type 0} (a b : Option A) → option_or a b ≡ None → (a ≡ None) × (b ≡ None)
both_none None b e = (refl, e)
both_none (Some a) b e = absurd (true≢false (ap is_some e))

-- a header's name and its value are within their grammars
abbrev pub IsFit : Pair → Type 0
IsFit header = (is_name header.0 ≡ true) × (is_value header.1 ≡ true)

abbrev pub AreFit : List Pair → Type 0
AreFit headers = AllByRecursion IsFit headers

-- headers are fit where none is refused
pub fit-from_none : (place : ℕ) (headers : List Pair) → unfit_headers place headers ≡ None → AreFit headers
fit-from_none place [] e = tt
fit-from_none place (header ∷ headers) e =
    let parts = both_none (unfit_header place header) (unfit_headers (place + 1) headers) e in
    let here = both_none (unless (is_name header.0) (InvalidHeaderName place)) (unfit_value (Header place) header.1) parts.0 in
    ((passed (is_name header.0) _ here.0, passed (is_value header.1) _ here.1), fit-from_none (place + 1) headers parts.1)

pub none-from_fit : (place : ℕ) (headers : List Pair) → AreFit headers → unfit_headers place headers ≡ None
none-from_fit place [] fit = refl
none-from_fit place (header ∷ headers) fit =
    λ i. option_or (option_or (unless (fit.0.0 i) (InvalidHeaderName place)) (unless (fit.0.1 i) (InvalidHeaderValue (Header place)))) (none-from_fit (place + 1) headers fit.1 i)

-- what holds of headers still does without a name
all-without : (P : Pair → Type 0) (headers : List Pair) (name : List ℕ) → AllByRecursion P headers → AllByRecursion P (without headers name)
all-without P [] name all = tt
all-without P (header ∷ headers) name all =
    elim (bytes_eq header.0 name) as (λ (b : Bool). AllByRecursion P (cond (not b) (header ∷ without headers name) (without headers name))) [
      | true ↦ all-without P headers name all.1
      | false ↦ (all.0, all-without P headers name all.1)
    ]

-- and after one is inserted of which it holds
pub all-inserted : (P : Pair → Type 0) (headers : List Pair) (name value : List ℕ) → P (name, value) → AllByRecursion P headers
    → AllByRecursion P (inserted headers name value)
all-inserted P [] name value is all = (is, tt)
all-inserted P (header ∷ headers) name value is all =
    elim (bytes_eq header.0 name) as (λ (b : Bool). AllByRecursion P (cond b ((name, value) ∷ without headers name) (header ∷ inserted headers name value))) [
      | true ↦ (is, all-without P headers name all.1)
      | false ↦ (all.0, all-inserted P headers name value is all.1)
    ]

abbrev AreFitInstructions : List Instruction → Type 0
AreFitInstructions instructions = AllByRecursion (λ i. IsFit (lower i.name, i.value)) instructions

-- headers are still fit after fit ones are inserted
pub fit-with : (instructions : List Instruction) (headers : List Pair) → AreFitInstructions instructions → AreFit headers → AreFit (with_instructions headers instructions)
fit-with [] headers all fit = fit
fit-with (i ∷ instructions) headers all fit = fit-with instructions (inserted headers (lower i.name) i.value) all.1 (all-inserted IsFit headers (lower i.name) i.value all.0 fit)

-- the signature's own headers are fit where their values are and the token's name is
pub fit-instructions : (settings : Settings) (date authorization_text : List ℕ) (payload token : Option (List ℕ)) → is_value date ≡ true → is_value authorization_text ≡ true
    → unfit_optional PayloadHash payload ≡ None → unfit_optional Token token ≡ None → is_name (lower (token_header settings)) ≡ true
    → AreFitInstructions (instructions_for settings date authorization_text payload token)
fit-instructions settings date authorization_text None None d a p t n = ((refl, d), ((refl, a), tt))
fit-instructions settings date authorization_text (Some payload) None d a p t n = ((refl, d), ((refl, a), ((refl, passed (is_value payload) _ p), tt)))
fit-instructions settings date authorization_text None (Some token) d a p t n = ((refl, d), ((refl, a), ((n, passed (is_value token) _ t), tt)))
fit-instructions settings date authorization_text (Some payload) (Some token) d a p t n =
    ((refl, d), ((refl, a), ((refl, passed (is_value payload) _ p), ((n, passed (is_value token) _ t), tt))))

-- ---- the token's name

-- the token's header has a header's name in lower case that isn't `host`
pub record HasOwnName (name : List ℕ) : Type 0 where
  pub is_lower : lower name ≡ name
  pub is_fit : is_name name ≡ true
  pub not_host : bytes_eq name (codes "host") ≡ false

pub own_name : (settings : Settings) (given : Option (List ℕ)) → is_query_form settings ≡ false → unfit_override settings given ≡ None
    → HasOwnName (unwrap_or given (codes "x-amz-security-token"))
own_name settings None form e = record { is_lower = refl; is_fit = refl; not_host = refl }
own_name settings (Some name) form e =
    let parts = and_parts (not (is_reserved name)) _ (passed (is_token_name settings name) InvalidTokenName e) in
    let header = and_parts (is_name name) _ (ap (λ b. cond b true (is_lower_name name)) (sym form) ∙ parts.1) in
    let same : lower name ≡ name = same_name _ _ header.1 in
    record { is_lower = same; is_fit = header.0; not_host = ap (λ n. bytes_eq n (codes "host")) (sym same) ∙ (or_parts _ _ (unreserved (is_reserved name) parts.0)).0 }
  where
    unreserved : (b : Bool) → not b ≡ true → b ≡ false
    unreserved true e = absurd (true≢false (sym e))
    unreserved false e = refl

-- ---- the date

digit-value : (n : ℕ) → is_value_byte (48 + n % 10) ≡ true
digit-value n = agree_below_at (λ d. is_value_byte (48 + d)) (λ _. true) 10 (n % 10) refl (omega arith)

pub digits-value : (n : ℕ) (rest : List ℕ) → is_value rest ≡ true → is_value (two_digits n ++ rest) ≡ true
digits-value n rest more = λ i. digit-value (n / 10) i && (digit-value n i && more i)

-- a stamp may be a header's value
pub stamp-value : (t : Instant) → is_value (stamp t) ≡ true
unfolding stamp stamp_of date_of
stamp-value t =
    let c = civil_of t in
    let from_second = two_digits c.second ++ codes "Z" in
    let from_minute = two_digits c.minute ++ from_second in
    let from_letter = codes "T" ++ two_digits c.hour ++ from_minute in
    let from_day = two_digits c.day ++ from_letter in
    let from_month = two_digits c.month ++ from_day in
    let from_year = two_digits c.year ++ from_month in
    let times = digits-value c.hour from_minute (digits-value c.minute from_second (digits-value c.second (codes "Z") refl)) in
    digits-value (c.year / 100) from_year (digits-value c.year from_month (digits-value c.month from_day (digits-value c.day from_letter times)))
