-- Metrics and frameworks without repetitions, one more at a time.
use Rattle.std.proofs.Common.{◌≡◌, ℕ, ◌+◌, ◌<◌, Bool, true, false, ◌&&◌, List, [], ◌∷◌, ◌++◌, Option, Some, None, get_or, length, take, refl, sym, ◌∙◌, ap}
use Rattle.std.specs.Option.{option_eq}
use Rattle.std.specs.Str.{bytes_eq}
use Rattle.std.proofs.lemmas.Bool.{eqb-true}
use Rattle.std.proofs.lemmas.List.{take_more}
use Rattle.std.proofs.lemmas.Slice.Eq.{bytes_eq-Decides}
use denote.Enum.Bare.{tag_one}
use denote.Enum.Declared.{tag_of}
use Rattle.aws_intercept.specs.contracts.user_agent.metric.BusinessMetric.{the_type}
use Rattle.aws_intercept.specs.declared.user_agent.metric.BusinessMetric.{BusinessMetric}
use Rattle.aws_intercept.specs.Distinct.{distinct, with_new}
use Rattle.aws_intercept.specs.Frameworks.{first_frameworks, first_ten_with}
use Rattle.aws_intercept.specs.Metadata.{NameVersion, same_name_version}
use Rattle.aws_intercept.specs.Metric.{is_metric}
use Rattle.aws_intercept.proofs.DistinctLemmas.{distinct_more, limited_more}

metric_exact : (a b : BusinessMetric) → is_metric a b ≡ true → a ≡ b
metric_exact a b same = tag_one the_type tt a b (eqb-true (tag_of the_type a) (tag_of the_type b) same)

-- the loop's step over metrics
pub distinct_metrics_step : (metrics kept next : List BusinessMetric) (at : ℕ) (d : BusinessMetric) → at < length metrics
    → kept ≡ distinct is_metric (take at metrics) → next ≡ with_new is_metric kept (get_or metrics at d)
    → next ≡ distinct is_metric (take (at + 1) metrics)
distinct_metrics_step metrics kept next at d below was is_next =
    is_next ∙ ap (λ (xs : List BusinessMetric). with_new is_metric xs (get_or metrics at d)) was
    ∙ sym (distinct_more is_metric metric_exact (take at metrics) (get_or metrics at d))
    ∙ ap (λ (xs : List BusinessMetric). distinct is_metric xs) (sym (take_more metrics at d below))

version_exact : (a b : Option (List ℕ)) → option_eq bytes_eq a b ≡ true → a ≡ b
version_exact None None same = refl
version_exact None (Some y) same = cc
version_exact (Some x) None same = cc
version_exact (Some x) (Some y) same = ap (λ text. Some text) ((bytes_eq-Decides x y).0 same)

named_eq : (a b : NameVersion) → a.name ≡ b.name → a.version ≡ b.version → a ≡ b
named_eq a b names versions =
    ap (λ (name : List ℕ). let named : NameVersion = record { name = name; version = a.version } in named) names
    ∙ ap (λ (version : Option (List ℕ)). let named : NameVersion = record { name = b.name; version = version } in named) versions

both_true : (a b : Bool) → (a && b) ≡ true → (a ≡ true) × (b ≡ true)
both_true true b both = (refl, both)
both_true false b both = cc

named_exact : (a b : NameVersion) → same_name_version a b ≡ true → a ≡ b
named_exact a b same =
    let both = both_true (bytes_eq a.name b.name) (option_eq bytes_eq a.version b.version) same in
    named_eq a b ((bytes_eq-Decides a.name b.name).0 both.0) (version_exact a.version b.version both.1)

-- no framework
pub first_frameworks_none : first_frameworks [] ≡ []
unfolding first_frameworks
first_frameworks_none = refl

first_frameworks_more : (frameworks : List NameVersion) (framework : NameVersion)
    → first_frameworks (frameworks ++ framework ∷ []) ≡ first_ten_with (first_frameworks frameworks) framework
unfolding first_frameworks first_ten_with
first_frameworks_more frameworks framework =
    ap (λ (xs : List NameVersion). take 10 xs) (distinct_more same_name_version named_exact frameworks framework)
    ∙ sym (limited_more same_name_version named_exact 10 (distinct same_name_version frameworks) framework)

-- the loop's step over frameworks
pub first_frameworks_step : (frameworks kept next : List NameVersion) (at : ℕ) (item : NameVersion) → at < length frameworks
    → item ≡ get_or frameworks at item → kept ≡ first_frameworks (take at frameworks) → next ≡ first_ten_with kept item
    → next ≡ first_frameworks (take (at + 1) frameworks)
first_frameworks_step frameworks kept next at item below is_item was is_next =
    is_next ∙ ap (λ (xs : List NameVersion). first_ten_with xs item) was
    ∙ ap (λ (x : NameVersion). first_ten_with (first_frameworks (take at frameworks)) x) is_item
    ∙ sym (first_frameworks_more (take at frameworks) (get_or frameworks at item))
    ∙ ap (λ (xs : List NameVersion). first_frameworks xs) (sym (take_more frameworks at item below))
