-- Metrics stand at their places, and different places have different ids.
use Rattle.std.proofs.Common.{◌≡◌, ℕ, ◌-◌, ◌/◌, ◌%◌, ◌<◌, ◌≤◌, List, [], ◌∷◌, Some, refl, sym, ◌∙◌, ap, arith, slice_get, Bool, true, false, nat_lt, ◌==◌, codes, if◌then◌else◌}
use Rattle.std.specs.List.{position_or_len}
use Rattle.std.proofs.lemmas.Bool.{agree_below, agree_below_at, eqb-true, ltb-true, ltb-false}
use denote.Enum.Declared.{tag_of}
use Rattle.aws_intercept.specs.contracts.user_agent.metric.BusinessMetric.{the_type}
use Rattle.aws_intercept.specs.declared.user_agent.metric.BusinessMetric.{BusinessMetric}
use Rattle.aws_intercept.specs.declared.user_agent.metric.BusinessMetric.TheVariants.{ResourceModel}
use Rattle.aws_intercept.specs.Metric.{metric_order, place, sign, id_at, metric_id}

-- the place is the number of the variant
pub place_is_number : (metric : BusinessMetric) → place metric ≡ tag_of the_type metric
unfolding place metric_order
place_is_number ResourceModel = refl
place_is_number _ = refl

-- each metric stands at its place
at_its_place : (metric : BusinessMetric) → slice_get metric_order (place metric) ≡ Some metric
unfolding place metric_order
at_its_place ResourceModel = refl
at_its_place _ = refl

place_test : (metric : BusinessMetric) → nat_lt (place metric) 98 ≡ true
unfolding place metric_order
place_test ResourceModel = refl
place_test _ = refl

-- there are 98 metrics
pub place_below : (metric : BusinessMetric) → place metric < 98
place_below metric = ltb-true _ _ (place_test metric)

ascii_test : agree_below (λ n. nat_lt (sign n) 128) (λ _. true) 64 ≡ true
unfolding sign
ascii_test = refl

-- each sign is ASCII
pub sign_is_ascii : (n : ℕ) → n < 64 → sign n < 128
sign_is_ascii n below = ltb-true _ _ (agree_below_at (λ n. nat_lt (sign n) 128) (λ _. true) 64 n ascii_test below)

-- the place of a sign
place_of_sign : ℕ → ℕ
place_of_sign byte = position_or_len (λ b. b == byte) (codes "ABCDEFGHIJKLMNOPQRSTUVWXYZabcdefghijklmnopqrstuvwxyz0123456789+-")

signs_test : agree_below (λ n. place_of_sign (sign n) == n) (λ _. true) 64 ≡ true
unfolding sign place_of_sign
signs_test = refl

sign_found : (n : ℕ) → n < 64 → place_of_sign (sign n) ≡ n
sign_found n below = eqb-true _ _ (agree_below_at (λ n. place_of_sign (sign n) == n) (λ _. true) 64 n signs_test below)

-- different signs stand at different places
sign_once : (m n : ℕ) → m < 64 → n < 64 → sign m ≡ sign n → m ≡ n
sign_once m n m_below n_below same = sym (sign_found m m_below) ∙ ap place_of_sign same ∙ sign_found n n_below

-- the id of a place, where it has one sign or else two
abbrev id_of : Bool → ℕ → List ℕ
id_of short n = if short then sign n ∷ [] else sign ((n - 64) / 64) ∷ sign ((n - 64) % 64) ∷ []

-- the two signs of an id are those of its place
pair_once : (m n : ℕ) → m < 4096 → n < 4096 → sign (m / 64) ≡ sign (n / 64) → sign (m % 64) ≡ sign (n % 64) → m ≡ n
pair_once m n m_below n_below high low =
    let highs : m / 64 ≡ n / 64 = sign_once _ _ (omega arith) (omega arith) high in
    let lows : m % 64 ≡ n % 64 = sign_once _ _ (omega arith) (omega arith) low in
    omega arith

id_cases : (m n : ℕ) → m < 4160 → n < 4160 → (s t : Bool) → nat_lt m 64 ≡ s → nat_lt n 64 ≡ t
    → id_of s m ≡ id_of t n → m ≡ n
id_cases m n m_below n_below true true is_m is_n same =
    sign_once m n (ltb-true m 64 is_m) (ltb-true n 64 is_n) (cc)
id_cases m n m_below n_below true false is_m is_n same = cc
id_cases m n m_below n_below false true is_m is_n same = cc
id_cases m n m_below n_below false false is_m is_n same =
    let m_from : 64 ≤ m = ltb-false m 64 is_m in
    let n_from : 64 ≤ n = ltb-false n 64 is_n in
    let below_m : m - 64 < 4096 = omega arith in
    let below_n : n - 64 < 4096 = omega arith in
    let rest : m - 64 ≡ n - 64 = pair_once (m - 64) (n - 64) below_m below_n (cc) (cc) in
    omega arith

-- different places have different ids
pub id_once : (m n : ℕ) → m < 4160 → n < 4160 → id_at m ≡ id_at n → m ≡ n
unfolding id_at
id_once m n m_below n_below same = id_cases m n m_below n_below (nat_lt m 64) (nat_lt n 64) refl refl same

-- different metrics have different ids
pub ids_differ : (a b : BusinessMetric) → metric_id a ≡ metric_id b → a ≡ b
unfolding metric_id
ids_differ a b same =
    let places : place a ≡ place b = id_once _ _ (omega (arith, place_below a)) (omega (arith, place_below b)) same in
    let found : Some a ≡ Some b = sym (at_its_place a) ∙ ap (slice_get metric_order) places ∙ at_its_place b in
    cc
