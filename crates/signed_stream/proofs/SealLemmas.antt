-- A chain that is signed message by message, and that is written as it comes.
use Rattle.std.proofs.Common.{◌≡◌, ℕ, suc, ◌+◌, ◌<◌, ◌≤◌, ◌⊎◌, inl, inr, List, [], ◌∷◌, ◌++◌, length, drop, Option, Some, None, option_to_list, refl, sym, ap, ◌∙◌, subst, arith, append-nil}
use Rattle.std.specs.Prelude.{Result, Ok, Err}
use Rattle.std.proofs.lemmas.List.{append_assoc}
use Rattle.smithy_core.specs.Given.{GivesEach}
use Rattle.smithy_core.specs.Message.{Parts}
use Rattle.smithy_core.specs.Moment.{Instant}
use Rattle.smithy_core.specs.Outside.{Gains}
use Rattle.smithy_core.specs.declared.outside.clock.Clock as Clock
use Rattle.smithy_core.proofs.GainLemmas.{gains_nothing, prefix_at_start}
use Rattle.smithy_core.proofs.GivenLemmas.{given_more}
use Rattle.eventstream.specs.Frame.{frame, unframed}
use Rattle.eventstream.specs.Key.{Signer}
use Rattle.eventstream.specs.Link.{link_signature}
use Rattle.eventstream.specs.Told.{SignsLink, Told, signs_over}
use Rattle.eventstream.specs.declared.error.ErrorKind.{ErrorKind}
use Rattle.eventstream.specs.declared.error.ErrorKind.TheVariants as reasons
use Rattle.eventstream.specs.declared.sign_error.SignMessageError.{SignMessageError}
use Rattle.eventstream.proofs.UnframedLemmas.{unframed_fault}
use Rattle.event_io.specs.Adapter.{TakesMoment, TakesNone}
use Rattle.event_io.specs.Chain.{next_bytes, next_unsigned}
use Rattle.signed_stream.specs.Chain.{first_refusal, frame_text, link_text}
use Rattle.signed_stream.specs.Sending.{EndsEarly, unless_refused}
use Rattle.signed_stream.specs.Sending.{IsSealer, IsSignFault, IsWriteFault, PutsFrame, Seals, SendsChain, next_refused, sign_ending, write_ending}
use Rattle.signed_stream.specs.Status.{Ending, RunFault, no_memory, refused, stream_ending}
use Rattle.signed_stream.specs.declared.form.Form.{Form}
use Rattle.signed_stream.specs.declared.status.StreamFault.{StreamFault}
use Rattle.signed_stream.proofs.ChainLemmas.{IsOver, SoFar, begins_so, front_unrefused, goes_on, is_ended_early, is_over, is_wanting, next_needed, next_passes, sent_needed, sign_refused, unframed_ends, write_refused}

-- ## One message

-- the first of the events is taken, and these are left; of none there is none
abbrev TakesNext : List Parts → Option Parts → List Parts → Type 0
TakesNext events None left = (events ≡ []) × (left ≡ [])
TakesNext events (Some event) left = events ≡ event ∷ left

pub next_taken : (events : List Parts) (event : Option Parts) (left : List Parts) → events ≡ option_to_list event ++ left → left ≡ drop 1 events → TakesNext events event left
next_taken events (Some event) left is others = is
next_taken [] None left is others = (refl, sym is)
next_taken (event ∷ events) None left is others =
    let count : length left ≡ suc (length events) = ap length (sym is) in
    let fewer : length left ≡ length events = ap length others in
    absurd (omega (arith, count, fewer))

-- why a message isn't written
pub write_fails : (message : Parts) (kind : ErrorKind) → (unframed message ≡ Some kind) ⊎ (kind ≡ reasons.NoMemory) → IsWriteFault kind
write_fails message kind (inl is) = (unframed_ends 0 kind (unframed_fault message kind is)).0
write_fails message kind (inr wants) = rw wants tt

-- a message that was signed was framed
pub sealed : (who : Signer) (place : ℕ) (signature : List ℕ) (events : List Parts) (t : Instant) (message : Parts) (bytes : List ℕ) (told : Told) (result : Result (Unit {0}) StreamFault)
    → SignsLink (next_unsigned events t) signature who (next_bytes events) t (Ok message) told → PutsFrame place message bytes result → Seals who place signature events t bytes told result
sealed who place signature events t message bytes told (Ok _) (signed, is, on) puts =
    (next_passes who place signature events t signed (ap unframed (sym is) ∙ puts.0), puts.1 ∙ ap frame is, on)
sealed who place signature events t message bytes told (Err fault) (signed, is, on) (kind, inl unframed_is, ends) =
    let found = (write_refused who place signature events t kind signed (ap unframed (sym is) ∙ unframed_is)).1 in
    inr (found.0, ends ∙ found.1, found.2)
sealed who place signature events t message bytes told (Err fault) (signed, is, on) (kind, inr wants, ends) = inl (ends ∙ ap (write_ending place) wants)

-- one that wasn't is refused, or memory ran out
pub sign_fails : (who : Signer) (place : ℕ) (signature : List ℕ) (events : List Parts) (t : Instant) (error : SignMessageError) (told : Told)
    → SignsLink (next_unsigned events t) signature who (next_bytes events) t (Err error) told → IsSignFault error
sign_fails who place signature events t error told (inl unsigned, stays) = (sign_refused who place signature events t error unsigned).0
sign_fails who place signature events t error told (inr wants, stays) = rw wants tt

pub unsealed : (who : Signer) (place : ℕ) (signature : List ℕ) (events : List Parts) (t : Instant) (error : SignMessageError) (bytes : List ℕ) (told : Told) (fault : StreamFault)
    → SignsLink (next_unsigned events t) signature who (next_bytes events) t (Err error) told → stream_ending fault ≡ sign_ending place error
    → Seals who place signature events t bytes told (Err fault)
unsealed who place signature events t error bytes told fault (inl unsigned, stays) ends =
    let found = (sign_refused who place signature events t error unsigned).1 in inr (found.0, ends ∙ found.1, found.2)
unsealed who place signature events t error bytes told fault (inr wants, stays) ends = inl (ends ∙ ap (sign_ending place) wants)

-- the first event, where it is taken, decides
module _ (who : Signer) (place : ℕ) (signature : List ℕ) (t : Instant) (bytes : List ℕ) (told : Told) (result : Result (Unit {0}) StreamFault) where
  seals_first : (events : List Parts) (event : Option Parts) (left : List Parts) → TakesNext events event left
      → Seals who place signature (option_to_list event) t bytes told result → Seals who place signature events t bytes told result
  seals_first events None left took seals = rw took.0 seals
  seals_first events (Some event) left took seals = rw took (by_result result seals)
    where
      by_result : (result : Result (Unit {0}) StreamFault) → Seals who place signature (event ∷ []) t bytes told result → Seals who place signature (event ∷ left) t bytes told result
      by_result (Ok _) seals = seals
      by_result (Err fault) seals = seals

-- ## The chain

-- a frame that is refused ends early, before it is written
refused_before : (stopped : Option RunFault) (reason : RunFault) (line : List ℕ) (held : Option (List ℕ)) → stopped ≡ Some reason → EndsEarly stopped (unless_refused stopped line) held held (refused reason)
refused_before stopped reason line held is = rw is (refl, gains_nothing held)

-- and so does one that finds no memory
wanting_before : (stopped : Option RunFault) (line : List ℕ) (held : Option (List ℕ)) → EndsEarly stopped (unless_refused stopped line) held held no_memory
wanting_before stopped line held = prefix_at_start held _

module _ {C : Type 0} (clock : Clock.Ghosts C) (form : Form) (who : Signer) (events : List Parts) (seed : List ℕ) (a : Option (List ℕ)) (old_moments : List Instant) (start : C) where
  -- how it ends: early, or well
  abbrev pub HasSentChain : Option (List ℕ) → List Instant → C → Result (Unit {0}) StreamFault → Type 0
  HasSentChain b moments now answer =
      (taken : List Instant) × (moments ≡ old_moments ++ taken) × GivesEach clock start taken now × SendsChain form who events seed a b taken answer

  -- what was written so far and the moments taken for it; events are left, over whose signature is told, or all is written
  pub record IsAt (b : Option (List ℕ)) (moments : List Instant) (now : C) (place : ℕ) (left : List Parts) (told : Told) : Type 0 where
    pub sent : List Instant
    pub gained : moments ≡ old_moments ++ sent
    pub given : GivesEach clock start sent now
    pub place_is : place ≡ length sent + 1
    pub state : ((signature : List ℕ) × (told ≡ signs_over signature who) × SoFar form who events seed a b sent place left signature) ⊎ IsOver form who events seed a b sent

  -- nothing was sent
  pub begins_at : (told : Told) → told ≡ signs_over seed who → IsAt a old_moments start 1 events told
  begins_at told is = record {
    sent = [];
    gained = sym (append-nil old_moments);
    given = refl;
    place_is = refl;
    state = inl (seed, is, begins_so form who events seed a);
  }

  module _ (b : Option (List ℕ)) (moments : List Instant) (now : C) (place : ℕ) (left : List Parts) (told : Told) (at : IsAt b moments now place left told) where
    -- all was sent
    pub sent_all : length events + 1 < place → HasSentChain b moments now (Ok tt)
    sent_all past = by_state at.state
      where
        by_state : ((signature : List ℕ) × (told ≡ signs_over signature who) × SoFar form who events seed a b at.sent place left signature) ⊎ IsOver form who events seed a b at.sent
            → HasSentChain b moments now (Ok tt)
        by_state (inl (signature, is, so)) = absurd (let count = so.counted in let at_place = at.place_is in omega (arith, at_place, count, past))
        by_state (inr over) = (
          at.sent,
          at.gained,
          at.given,
          record {
            sends = rw over.refusal (refl, rw over.refusal at over.gained);
            whole = over.counted;
            next = sent_needed who events seed at.sent over.refusal (let count = over.counted in omega (arith, count));
          },
        )

    module _ (within : place ≤ length events + 1) where
      -- a frame is to come
      record IsOpen : Type 0 where
        signature : List ℕ
        told_is : told ≡ signs_over signature who
        so : SoFar form who events seed a b at.sent place left signature

      is_open : IsOpen
      is_open = by_state at.state
        where
          by_state : ((signature : List ℕ) × (told ≡ signs_over signature who) × SoFar form who events seed a b at.sent place left signature) ⊎ IsOver form who events seed a b at.sent → IsOpen
          by_state (inl (signature, is, so)) = record { signature = signature; told_is = is; so = so }
          by_state (inr over) = absurd (let at_place = at.place_is in let count = over.counted in omega (arith, at_place, count, within))

      pub seals_on : IsSealer told
      seals_on = let is = is_open.told_is in rw is refl

      unrefused : first_refusal who 1 events at.sent seed ≡ None
      unrefused = front_unrefused who 1 events at.sent [] seed (sym (is_open.so.refusal []))

      -- memory ran out before the next moment
      pub wants_at : (new_moments : List Instant) (after : C) (fault : StreamFault) → stream_ending fault ≡ no_memory → TakesNone now after moments new_moments
          → HasSentChain b new_moments after (Err fault)
      wants_at new_moments after fault wants none = (
        at.sent,
        none.1 ∙ at.gained,
        subst (λ c. GivesEach clock start at.sent c) (sym none.0) at.given,
        record {
          sends = rw wants (is_wanting form who events seed a b at.sent place left is_open.signature is_open.so);
          whole = tt;
          next = sent_needed who events seed at.sent unrefused (let count = is_open.so.counted in omega (arith, count));
        },
      )

      module _ (t : Instant) (new_moments : List Instant) (after : C) (takes : TakesMoment clock now after moments new_moments t) where
        abbrev stopped : Option RunFault
        stopped = next_refused who place is_open.signature left t

        abbrev line : List ℕ
        line = link_text form who is_open.signature (next_bytes left) t

        -- with one moment more the frame wasn't written
        ended_early_at : (c : Option (List ℕ)) (fault : StreamFault) → EndsEarly stopped (unless_refused stopped line) b c (stream_ending fault) → HasSentChain c new_moments after (Err fault)
        ended_early_at c fault ends_early = (
          at.sent ++ t ∷ [],
          takes.0 ∙ ap (λ (ms : List Instant). ms ++ t ∷ []) at.gained ∙ append_assoc old_moments at.sent (t ∷ []),
          given_more clock start now after at.sent t at.given takes.1,
          record {
            sends = is_ended_early form who events seed a b c at.sent place is_open.signature t left (stream_ending fault) is_open.so ends_early;
            whole = tt;
            next = next_needed who events seed at.sent unrefused t (let count = is_open.so.counted in omega (arith, count));
          },
        )

        module _ (event : Option Parts) (others : List Parts) (took : TakesNext left event others) (bytes : List ℕ) (new_told : Told) where
          abbrev SealsNext : Result (Unit {0}) StreamFault → Type 0
          SealsNext result = (signer : Signer) (signature : List ℕ) → told ≡ signs_over signature signer → Seals signer place signature (option_to_list event) t bytes new_told result

          seals_left : (result : Result (Unit {0}) StreamFault) → SealsNext result → Seals who place is_open.signature left t bytes new_told result
          seals_left result seals = seals_first who place is_open.signature t bytes new_told result left event others took (seals who is_open.signature is_open.told_is)

          -- it has no frame
          pub unsealed_at : (fault : StreamFault) → SealsNext (Err fault) → HasSentChain b new_moments after (Err fault)
          unsealed_at fault seals = by_fault (seals_left (Err fault) seals)
            where
              ends_early : {early : Ending} → stream_ending fault ≡ early → EndsEarly stopped (unless_refused stopped line) b b early → HasSentChain b new_moments after (Err fault)
              ends_early is ended_early = ended_early_at b fault (subst (λ (h : Ending). EndsEarly stopped (unless_refused stopped line) b b h) (sym is) ended_early)

              by_fault : Seals who place is_open.signature left t bytes new_told (Err fault) → HasSentChain b new_moments after (Err fault)
              by_fault (inl wants) = ends_early wants (wanting_before stopped line b)
              by_fault (inr (reason, is, refuses)) = ends_early is (refused_before stopped reason line b refuses)

          module _ (result : Unit {0}) (seals : SealsNext (Ok result)) where
            sealed_left : Seals who place is_open.signature left t bytes new_told (Ok result)
            sealed_left = seals_left (Ok result) seals

            text_is : frame_text form bytes ≡ line
            unfolding link_text
            text_is = ap (frame_text form) sealed_left.1

            -- it wasn't written whole
            pub cut_at : (c : Option (List ℕ)) (fault : StreamFault) → EndsEarly None (frame_text form bytes) b c (stream_ending fault) → HasSentChain c new_moments after (Err fault)
            cut_at c fault ends_early = ended_early_at c fault (rw sealed_left.0 (rw text_is at ends_early))

            -- it was written
            pub goes_at : (c : Option (List ℕ)) → Gains b c (frame_text form bytes) → IsAt c new_moments after (place + 1) others new_told
            goes_at c wrote = by_left left event took is_open.so sealed_left (rw text_is at wrote)
              where
                had : new_moments ≡ old_moments ++ (at.sent ++ t ∷ [])
                had = takes.0 ∙ ap (λ (ms : List Instant). ms ++ t ∷ []) at.gained ∙ append_assoc old_moments at.sent (t ∷ [])

                by_left : (left : List Parts) (event : Option Parts) → TakesNext left event others → SoFar form who events seed a b at.sent place left is_open.signature
                    → Seals who place is_open.signature left t bytes new_told (Ok result) → Gains b c (link_text form who is_open.signature (next_bytes left) t)
                    → IsAt c new_moments after (place + 1) others new_told
                by_left [] event took so (passes, are, on) written =
                    let over = is_over form who events seed a b c at.sent place is_open.signature t so passes written in record {
                      sent = at.sent ++ t ∷ [];
                      gained = had;
                      given = given_more clock start now after at.sent t at.given takes.1;
                      place_is = (let count = over.counted in let is = at.place_is in let before = so.counted in omega (arith, count, is, before));
                      state = inr over;
                    }
                by_left (first ∷ left) None took so seals written = let no : ⊥ = (let is = took.0 in cc) in absurd no
                by_left (first ∷ left) (Some event) took so (passes, are, on) written =
                    let next = goes_on form who events seed a b c at.sent place is_open.signature t first left so passes written in
                    let same : left ≡ others = cc in record {
                      sent = at.sent ++ t ∷ [];
                      gained = had;
                      given = given_more clock start now after at.sent t at.given takes.1;
                      place_is = next.place_is;
                      state = inl (link_signature who is_open.signature (frame first) t, on, subst (λ l. SoFar form who events seed a c (at.sent ++ t ∷ []) (place + 1) l (link_signature who is_open.signature (frame first) t)) same next);
                    }
