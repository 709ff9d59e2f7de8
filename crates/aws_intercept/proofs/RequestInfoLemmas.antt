-- The header that tells of the attempts of a request.
use Rattle.std.proofs.Common.{◌≡◌, ℕ, List, ◌∷◌, ◌++◌, Option, Some, None, codes, refl, option_map, option_to_list, append_assoc, unwrap_or}
use Rattle.std.specs.Fmt.{decimal}
use Rattle.std.specs.List.{join_by}
use Rattle.std.proofs.lemmas.List.{append-nil}
use Rattle.smithy_core.specs.Civil.{IsInYears, civil_of, stamp}
use Rattle.smithy_core.specs.CivilText.{stamp_of}
use Rattle.smithy_core.specs.Moment.{Instant}
use Rattle.smithy_core.specs.declared.client_config.RetryConfig.{RetryConfig}
use Rattle.smithy_core.proofs.YearLemmas.{years_in, years_out}
use Rattle.aws_intercept.specs.declared.bag.ConfigBag.{ConfigBag}
use Rattle.aws_intercept.specs.RequestInfo.{info_text, max_end, stamped, ttl, ttl_front}

-- a moment in the years has its stamp
pub stamped_in_years : (t : Instant) → IsInYears t → stamped t ≡ Some (stamp_of (civil_of t))
unfolding stamped stamp
stamped_in_years t years = rw (years_in t years) refl

-- another moment has none
pub never_stamped : (t : Instant) → (IsInYears t → ⊥) → stamped t ≡ None
unfolding stamped
never_stamped t never = rw (years_out t never) refl

info_by : (attempt : List ℕ) (ttl : Option (List ℕ)) (retry : Option RetryConfig)
    → join_by (λ part. part) (codes "; ") (option_to_list (option_map (λ text. codes "ttl=" ++ text) ttl)
    ++ (attempt ∷ option_to_list (option_map (λ retry. codes "max=" ++ decimal retry.max_attempts) retry)))
    ≡ (ttl_front ttl ++ attempt) ++ max_end retry
info_by attempt None None = refl
info_by attempt None (Some m) = simp append-nil
info_by attempt (Some t) None = simp (append_assoc, append-nil)
info_by attempt (Some t) (Some m) = simp (append_assoc, append-nil)

-- the value part by part
pub info_in_turn : (now : Instant) (bag : ConfigBag) → info_text now bag
    ≡ (ttl_front (ttl now bag) ++ (codes "attempt=" ++ decimal (unwrap_or bag.attempts 0))) ++ max_end bag.retry
unfolding info_text
info_in_turn now bag = info_by (codes "attempt=" ++ decimal (unwrap_or bag.attempts 0)) (ttl now bag) bag.retry
