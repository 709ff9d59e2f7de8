-- The first test of what the texts state that is met.
use Rattle.std.proofs.Common.{◌≡◌, ℕ, ◌<◌, ◌≤◌, List, [], ◌∷◌, ◌++◌, Option, Some, None, Ok, Err, inl, inr, refl, sym, ap, ◌∙◌, arith}
use Rattle.std.specs.Prelude.{codes}
use Rattle.smithy_core.specs.Moment.{Instant}
use Rattle.eventstream.specs.Key.{scope}
use Rattle.request_check.specs.Carried.{CutsScope}
use Rattle.request_check.specs.Stamped.{ReadsStamp}
use Rattle.request_check.proofs.SealLemmas.{absent}
use Rattle.request_check.proofs.StampLemmas.{stamped_once}
use Rattle.request_door.specs.DoorCarried.{DoorTexts}
use Rattle.request_door.specs.DoorOrder.{IsFirstMet, NoneMet}
use Rattle.request_door.specs.DoorTerms.{LacksEnd, MeetsTerm, PassesScope, ReadsDoorTerms, TextsState, term_tests, stated_seconds}
use Rattle.request_door.specs.declared.fault.DoorFault.{DoorFault}
use Rattle.request_door.specs.declared.fault.DoorFault.TheVariants.{BadDate, OtherDay, BadExpiry, LongExpiry}
use Rattle.request_door.specs.declared.limits.Limits.{Limits}

-- a text that has an end doesn't lack it
pub ends : (end text front : List ℕ) → text ≡ front ++ end → LacksEnd end text → ⊥
ends end text front e lacks = lacks front e

module _ (region name : List ℕ) (limits : Limits) (texts : DoorTexts) where
  pub bad_date : ReadsStamp texts.date None → ReadsDoorTerms region name limits texts (Err BadDate)
  bad_date none = inl (inl (none, refl))

  module _ (at : Instant) (stamped : ReadsStamp texts.date (Some at)) where
    dated : ReadsStamp texts.date None → ⊥
    dated none = none at stamped.0 stamped.1

    pub bad_scope : (fault : DoorFault) → PassesScope region name texts.credential (Err fault) → ReadsDoorTerms region name limits texts (Err fault)
    bad_scope fault (inl (inl met)) = inl (inr (dated, inl met))
    bad_scope fault (inl (inr (a, inl met))) = inl (inr (dated, inr (a, inl met)))
    bad_scope fault (inl (inr (a, inr (b, inl met)))) = inl (inr (dated, inr (a, inr (b, inl met))))
    bad_scope fault (inl (inr (a, inr (b, inr (c, never))))) = absurd never
    bad_scope fault (inr room) = inr room

    module _ (scoped : PassesScope region name texts.credential (Ok tt)) where
      behind : (fault : DoorFault) → IsFirstMet (MeetsTerm region name limits texts) (OtherDay ∷ BadExpiry ∷ LongExpiry ∷ []) fault
          → ReadsDoorTerms region name limits texts (Err fault)
      behind fault first = inl (inr (dated, inr (scoped.0, inr (scoped.1.0, inr (scoped.1.1.0, first)))))

      pub other_day : CutsScope (scope at region name) texts.credential None → ReadsDoorTerms region name limits texts (Err OtherDay)
      other_day uncut = behind OtherDay (inl ((at, stamped, uncut), refl))

      module _ (key_id : List ℕ) (cut : texts.credential ≡ key_id ++ codes "/" ++ scope at region name) where
        same_day : MeetsTerm region name limits texts OtherDay → ⊥
        same_day (other, stamp, uncut) =
            let same : at ≡ other = stamped_once at other stamped.0 stamp.0 (stamped.1 ∙ sym stamp.1) in
            uncut key_id (cut ∙ ap (λ (t : Instant). key_id ++ codes "/" ++ scope t region name) same)

        pub bad_expiry : stated_seconds texts.place texts.expires ≡ None → ReadsDoorTerms region name limits texts (Err BadExpiry)
        bad_expiry none = behind BadExpiry (inr (same_day, inl (none, refl)))

        module _ (seconds : ℕ) (stated : stated_seconds texts.place texts.expires ≡ Some seconds) where
          spelled : stated_seconds texts.place texts.expires ≡ None → ⊥
          spelled none = absent (sym none ∙ stated)

          pub long_expiry : limits.expiry < seconds → ReadsDoorTerms region name limits texts (Err LongExpiry)
          long_expiry over = behind LongExpiry (inr (same_day, inr (spelled, inl ((seconds, stated, over), refl))))

          short : seconds ≤ limits.expiry → MeetsTerm region name limits texts LongExpiry → ⊥
          short within (other, is, over) = by (same (sym stated ∙ is))
            where
              same : ◌≡◌ {A = Option ℕ} (Some seconds) (Some other) → seconds ≡ other
              same e = cc

              by : seconds ≡ other → ⊥
              by e = omega arith

          pub states : seconds ≤ limits.expiry → NoneMet (MeetsTerm region name limits texts) term_tests
              × TextsState region name texts (record { key_id = key_id; at = at; seconds = seconds })
          states within = (
            (dated, (scoped.0, (scoped.1.0, (scoped.1.1.0, (same_day, (spelled, (short within, tt))))))),
            record { moment = stamped.0; date = stamped.1; credential = cut; expires = stated },
          )
