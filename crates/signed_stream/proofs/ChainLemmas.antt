-- A chain that is written frame by frame, up to the first one that is refused.
use Rattle.std.proofs.Common.{◌≡◌, ℕ, suc, ◌+◌, ◌-◌, ◌≤◌, Bool, true, false, List, [], ◌∷◌, ◌++◌, Option, Some, None, option_map, length, take, refl, sym, ap, ◌∙◌, arith, append-nil}
use Rattle.std.specs.Prelude.{if◌then◌else◌}
use Rattle.std.specs.Option.{option_or}
use Rattle.std.proofs.lemmas.List.{append_assoc}
use Rattle.smithy_core.specs.Civil.{IsInYears, is_in_years}
use Rattle.smithy_core.specs.Moment.{Instant}
use Rattle.smithy_core.specs.Outside.{Gains, GainsPrefix, GainsRest}
use Rattle.smithy_core.specs.Message.{Parts}
use Rattle.smithy_core.proofs.GainLemmas.{gains_front, gains_join, gains_last, gains_nothing, prefix_join, prefix_within}
use Rattle.smithy_core.proofs.YearLemmas.{in_years, years_in}
use Rattle.eventstream.specs.Frame.{frame, unframed}
use Rattle.eventstream.specs.Key.{Signer}
use Rattle.eventstream.specs.Link.{begun, link_message, link_signature}
use Rattle.eventstream.specs.Told.{encoding_refusal, unsigned_at}
use Rattle.eventstream.specs.Write.{IsFrameFault}
use Rattle.eventstream.specs.declared.error.ErrorKind.{ErrorKind}
use Rattle.eventstream.specs.declared.error.ErrorKind.TheVariants as reasons
use Rattle.eventstream.specs.declared.sign_error.SignMessageError.{SignMessageError}
use Rattle.eventstream.specs.declared.sign_error.SignMessageError.TheVariants as signing
use Rattle.eventstream.proofs.LinkLemmas.{link_framed}
use Rattle.eventstream.proofs.UnframedLemmas.{unframed_fault}
use Rattle.event_io.specs.Chain.{next_bytes, next_unsigned}
use Rattle.signed_stream.specs.declared.form.Form.{Form}
use Rattle.chain_watch.specs.Chain.{IsWholeChain}
use Rattle.signed_stream.specs.Chain.{Refusal, chain_text, fault_at, first_refusal, frames_text, link_text, outside_years, refusal_at, refusal_fault, streamed_text, text_before, unframed_at, unlinked}
use Rattle.signed_stream.specs.Sending.{EndsEarly, unless_refused}
use Rattle.signed_stream.specs.Sending.{TakesInTurn, IsRefusedBy, IsSignFault, IsWriteFault, next_refused, sign_ending, write_ending}
use Rattle.signed_stream.specs.Status.{Ending, RunFault, moment_out_of_range, no_memory, output_fault, refused}

-- ## One message

-- the closing message has a frame
pub closing_framed : (signer : Signer) (signature : List ℕ) (t : Instant) → IsInYears t → unframed (link_message signer signature [] t) ≡ None
closing_framed signer signature t within = link_framed signer signature [] t within (omega arith)

inside_years : (t : Instant) → outside_years t ≡ None → is_in_years t ≡ true
inside_years t = by_years (is_in_years t)
  where
    by_years : (years : Bool) → (if years then None else Some (moment_out_of_range t)) ≡ None → years ≡ true
    by_years true none = refl
    by_years false none = cc

-- a moment at which something is signed isn't refused
signed_inside : (t : Instant) → unsigned_at t ≡ None → is_in_years t ≡ true
signed_inside t = by_years (is_in_years t)
  where
    by_years : (years : Bool) → (if years then None else Some (signing.MomentOutOfRange t)) ≡ None → years ≡ true
    by_years true none = refl
    by_years false none = cc

no_encoding : (reason : Option ErrorKind) (others : Option SignMessageError) → option_or (option_map encoding_refusal reason) others ≡ None → (reason ≡ None) × (others ≡ None)
no_encoding None others none = (refl, none)
no_encoding (Some kind) others none = cc

-- a frame that is signed and framed isn't refused
pub next_passes : (who : Signer) (place : ℕ) (signature : List ℕ) (events : List Parts) (t : Instant) → next_unsigned events t ≡ None
    → unframed (link_message who signature (next_bytes events) t) ≡ None → next_refused who place signature events t ≡ None
unfolding unlinked
next_passes who place signature [] t signed framed = rw (signed_inside t signed) refl
next_passes who place signature (event ∷ events) t signed framed =
    let parts = no_encoding (unframed event) (unsigned_at t) signed in rw (parts.0, signed_inside t parts.1, framed) refl

-- a message without a frame isn't written, and the run ends so
pub unframed_ends : (place : ℕ) (kind : ErrorKind) → IsFrameFault kind → IsWriteFault kind × (write_ending place kind ≡ refused (fault_at place kind))
unframed_ends place reasons.NoMemory of = absurd of
unframed_ends place kind of = (of, refl)

-- a moment outside the years
outside_refused : (place : ℕ) (t : Instant) (error : SignMessageError) → unsigned_at t ≡ Some error → (error ≡ signing.MomentOutOfRange t) × (is_in_years t ≡ false)
outside_refused place t error = by_years (is_in_years t)
  where
    by_years : (years : Bool) → (if years then None else Some (signing.MomentOutOfRange t)) ≡ Some error → (error ≡ signing.MomentOutOfRange t) × (years ≡ false)
    by_years true is = cc
    by_years false is = let same : error ≡ signing.MomentOutOfRange t = cc in (same, refl)

pub sign_refused : (who : Signer) (place : ℕ) (signature : List ℕ) (events : List Parts) (t : Instant) (error : SignMessageError) → next_unsigned events t ≡ Some error
    → IsSignFault error × IsRefusedBy who place signature events t (sign_ending place error)
unfolding unlinked
sign_refused who place signature [] t error is =
    let found = outside_refused place t error is in
    let stopped : outside_years t ≡ Some (moment_out_of_range t) = rw found.1 refl in
    rw found.0 (tt, (moment_out_of_range t, refl, stopped))
sign_refused who place signature (event ∷ events) t error is = by_reason (unframed event) refl is
  where
    by_reason : (reason : Option ErrorKind) → unframed event ≡ reason → option_or (option_map encoding_refusal reason) (unsigned_at t) ≡ Some error
        → IsSignFault error × IsRefusedBy who place signature (event ∷ events) t (sign_ending place error)
    by_reason None framed is =
        let found = outside_refused place t error is in
        let stopped : unlinked who place signature event t ≡ Some (moment_out_of_range t) = rw (framed, found.1) refl in
        rw found.0 (tt, (moment_out_of_range t, refl, stopped))
    by_reason (Some kind) unframed_is is =
        let same : error ≡ encoding_refusal kind = cc in
        let ends = unframed_ends place kind (unframed_fault event kind unframed_is) in
        let stopped : unlinked who place signature event t ≡ Some (fault_at place kind) = rw unframed_is refl in
        rw same (ends.0, (fault_at place kind, ends.1, stopped))

-- a signed message without a frame is that of an event
pub write_refused : (who : Signer) (place : ℕ) (signature : List ℕ) (events : List Parts) (t : Instant) (kind : ErrorKind) → next_unsigned events t ≡ None
    → unframed (link_message who signature (next_bytes events) t) ≡ Some kind
    → IsWriteFault kind × IsRefusedBy who place signature events t (write_ending place kind)
unfolding unlinked
write_refused who place signature [] t kind signed unframed_is =
    let framed = closing_framed who signature t (in_years t (signed_inside t signed)) in
    let no : None ≡ Some kind = sym framed ∙ unframed_is in cc
write_refused who place signature (event ∷ events) t kind signed unframed_is =
    let parts = no_encoding (unframed event) (unsigned_at t) signed in
    let message = link_message who signature (frame event) t in
    let ends = unframed_ends place kind (unframed_fault message kind unframed_is) in
    let stopped : unlinked who place signature event t ≡ Some (fault_at place kind) = rw (parts.0, signed_inside t parts.1, unframed_is) refl in
    (ends.0, (fault_at place kind, ends.1, stopped))

-- ## The chain

module _ (form : Form) where
  -- the line of the first event, and then the chain of the others from its signature on
  chain_cons : (signer : Signer) (event : Parts) (events : List Parts) (at : Instant) (moments : List Instant) (signature : List ℕ)
      → chain_text form signer (event ∷ events) (at ∷ moments) signature
      ≡ link_text form signer signature (frame event) at ++ chain_text form signer events moments (link_signature signer signature (frame event) at)
  unfolding chain_text link_text
  chain_cons signer event events at moments signature = refl

  -- with no events there is the closing line alone
  chain_nil : (signer : Signer) (at : Instant) (signature : List ℕ) → chain_text form signer [] (at ∷ []) signature ≡ link_text form signer signature [] at
  unfolding chain_text link_text
  chain_nil signer at signature = append-nil _

  -- the lines of these events, whose places count from this one on, up to the refused one
  abbrev pub text_from : Signer → ℕ → List Parts → List Instant → List ℕ → Option Refusal → List ℕ
  text_from signer place events moments signature None = chain_text form signer events moments signature
  text_from signer place events moments signature (Some stopped) = frames_text form (begun signer events (take (stopped.place - place) moments) signature)

  abbrev pub streamed_from : Signer → ℕ → List Parts → List Instant → List ℕ → List ℕ
  streamed_from signer place events moments signature = text_from signer place events moments signature (first_refusal signer place events moments signature)

  -- all events count from 1
  pub streamed_first : (signer : Signer) (events : List Parts) (moments : List Instant) (signature : List ℕ)
      → streamed_from signer 1 events moments signature ≡ streamed_text form signer events moments signature (first_refusal signer 1 events moments signature)
  unfolding text_before
  streamed_first signer events moments signature = by_refusal (first_refusal signer 1 events moments signature)
    where
      by_refusal : (stopped : Option Refusal) → text_from signer 1 events moments signature stopped ≡ streamed_text form signer events moments signature stopped
      by_refusal None = refl
      by_refusal (Some stopped) = refl

  -- what is refused has one of the places
  later : (signer : Signer) (place : ℕ) (events : List Parts) (moments : List Instant) (signature : List ℕ) (stopped : Refusal)
      → first_refusal signer place events moments signature ≡ Some stopped → place ≤ stopped.place
  later signer place [] [] signature stopped is = cc
  later signer place (event ∷ events) [] signature stopped is = cc
  later signer place [] (at ∷ moments) signature stopped is = by_fault (outside_years at) is
    where
      by_fault : (fault : Option RunFault) → option_map (refusal_at place) fault ≡ Some stopped → place ≤ stopped.place
      by_fault None is = cc
      by_fault (Some fault) is = let same : place ≡ stopped.place = cc in omega arith
  later signer place (event ∷ events) (at ∷ moments) signature stopped is =
      by_fault (unlinked signer place signature event at) (later signer (place + 1) events moments (link_signature signer signature (frame event) at) stopped) is
    where
      by_fault : (fault : Option RunFault) → (first_refusal signer (place + 1) events moments (link_signature signer signature (frame event) at) ≡ Some stopped → place + 1 ≤ stopped.place)
          → option_or (option_map (refusal_at place) fault) (first_refusal signer (place + 1) events moments (link_signature signer signature (frame event) at)) ≡ Some stopped
          → place ≤ stopped.place
      by_fault None others is = omega (arith, others is)
      by_fault (Some fault) others is = let same : place ≡ stopped.place = cc in omega arith

  -- the first event is linked: the others decide
  linked_refusal : (signer : Signer) (place : ℕ) (event : Parts) (events : List Parts) (at : Instant) (moments : List Instant) (signature : List ℕ) → unlinked signer place signature event at ≡ None
      → first_refusal signer place (event ∷ events) (at ∷ moments) signature ≡ first_refusal signer (place + 1) events moments (link_signature signer signature (frame event) at)
  linked_refusal signer place event events at moments signature linked = rw linked refl

  linked_text : (signer : Signer) (place : ℕ) (event : Parts) (events : List Parts) (at : Instant) (moments : List Instant) (signature : List ℕ) → unlinked signer place signature event at ≡ None
      → streamed_from signer place (event ∷ events) (at ∷ moments) signature
      ≡ link_text form signer signature (frame event) at ++ streamed_from signer (place + 1) events moments (link_signature signer signature (frame event) at)
  unfolding link_text
  linked_text signer place event events at moments signature linked =
      ap (text_from signer place (event ∷ events) (at ∷ moments) signature) (linked_refusal signer place event events at moments signature linked)
      ∙ by_refusal (first_refusal signer (place + 1) events moments next) (later signer (place + 1) events moments next)
    where
      next : List ℕ
      next = link_signature signer signature (frame event) at

      by_refusal : (others : Option Refusal) → ((stopped : Refusal) → others ≡ Some stopped → place + 1 ≤ stopped.place)
          → text_from signer place (event ∷ events) (at ∷ moments) signature others
          ≡ link_text form signer signature (frame event) at ++ text_from signer (place + 1) events moments (link_signature signer signature (frame event) at) others
      by_refusal None after = chain_cons signer event events at moments signature
      by_refusal (Some stopped) after =
          let one_more : stopped.place - place ≡ suc (stopped.place - (place + 1)) = omega (arith, after stopped refl) in rw one_more refl

  -- the first event isn't linked: it is refused, and nothing is written
  unlinked_refusal : (signer : Signer) (place : ℕ) (event : Parts) (events : List Parts) (at : Instant) (moments : List Instant) (signature : List ℕ) (fault : RunFault)
      → unlinked signer place signature event at ≡ Some fault → first_refusal signer place (event ∷ events) (at ∷ moments) signature ≡ Some (refusal_at place fault)
  unlinked_refusal signer place event events at moments signature fault is = rw is refl

  -- what is refused first has no lines before it
  refused_text : (signer : Signer) (place : ℕ) (events : List Parts) (moments : List Instant) (signature : List ℕ) (fault : RunFault)
      → first_refusal signer place events moments signature ≡ Some (refusal_at place fault) → streamed_from signer place events moments signature ≡ []
  refused_text signer place events moments signature fault is =
      let none : place - place ≡ 0 = omega arith in
      ap (text_from signer place events moments signature) is ∙ rw none refl

  -- an event was sent: the others are left
  pub event_sent : (a b c : Option (List ℕ)) (signer : Signer) (place : ℕ) (event : Parts) (events : List Parts) (at : Instant) (moments : List Instant) (signature next text : List ℕ) (whole : Option Refusal)
      → next ≡ link_signature signer signature (frame event) at
      → first_refusal signer place (event ∷ events) (at ∷ moments) signature ≡ whole
      → GainsRest a b (streamed_from signer place (event ∷ events) (at ∷ moments) signature) text
      → (unlinked signer place signature event at ≡ None) × Gains b c (unless_refused (unlinked signer place signature event at) (link_text form signer signature (frame event) at))
      → (first_refusal signer (place + 1) events moments next ≡ whole) × GainsRest a c (streamed_from signer (place + 1) events moments next) text
  event_sent a b c signer place event events at moments signature next text whole is decided first second =
      let linked = second.0 in
      let line = link_text form signer signature (frame event) at in
      let others = streamed_from signer (place + 1) events moments (link_signature signer signature (frame event) at) in
      let wrote : Gains b c line = rw linked at second.1 in
      let left : GainsRest b c others (streamed_from signer place (event ∷ events) (at ∷ moments) signature) =
      rw (linked_text signer place event events at moments signature linked) (gains_front b c line others wrote) in (
        rw is (sym (linked_refusal signer place event events at moments signature linked) ∙ decided),
        rw is (gains_join a b c others (streamed_from signer place (event ∷ events) (at ∷ moments) signature) text first left),
      )

  -- an event wasn't sent: it is refused, or a front of its line was written
  pub event_ended_early : (a b c : Option (List ℕ)) (signer : Signer) (place : ℕ) (event : Parts) (events : List Parts) (at : Instant) (moments : List Instant) (signature text : List ℕ) (whole : Option Refusal) (early : Ending)
      → first_refusal signer place (event ∷ events) (at ∷ moments) signature ≡ whole
      → GainsRest a b (streamed_from signer place (event ∷ events) (at ∷ moments) signature) text
      → EndsEarly (unlinked signer place signature event at) (unless_refused (unlinked signer place signature event at) (link_text form signer signature (frame event) at)) b c early
      → EndsEarly (refusal_fault whole) text a c early
  event_ended_early a b c signer place event events at moments signature text whole early decided first sends =
      by_fault (unlinked signer place signature event at) early refl sends
    where
      none_left : (fault : RunFault) → unlinked signer place signature event at ≡ Some fault → GainsRest a b [] text
      none_left fault is = rw (refused_text signer place (event ∷ events) (at ∷ moments) signature fault (unlinked_refusal signer place event events at moments signature fault is)) at first

      cut : (fault : Option RunFault) → unlinked signer place signature event at ≡ fault → GainsPrefix b c (unless_refused fault (link_text form signer signature (frame event) at)) → GainsPrefix a c text
      cut None is part =
          prefix_join a b c (streamed_from signer place (event ∷ events) (at ∷ moments) signature) text first
          (rw (linked_text signer place event events at moments signature is) (prefix_within b c (link_text form signer signature (frame event) at) _ part))
      cut (Some fault) is part = prefix_join a b c [] text (none_left fault is) part

      by_fault : (fault : Option RunFault) (early : Ending) → unlinked signer place signature event at ≡ fault
          → EndsEarly fault (unless_refused fault (link_text form signer signature (frame event) at)) b c early → EndsEarly (refusal_fault whole) text a c early
      by_fault fault output_fault is sends = cut fault is sends
      by_fault fault no_memory is sends = cut fault is sends
      by_fault None (refused reason) is sends = let wrong : None ≡ Some reason = sends.0 in cc
      by_fault (Some fault) (refused reason) is sends =
          let same : Some fault ≡ Some reason = sends.0 in (
            rw (← decided, unlinked_refusal signer place event events at moments signature fault is) same,
            gains_last a b c [] text (none_left fault is) sends.1,
          )
      by_fault fault other is sends = absurd sends

  -- all events were sent, and then the closing line
  closing_sent : (a b c : Option (List ℕ)) (signer : Signer) (place : ℕ) (at : Instant) (signature text : List ℕ) → outside_years at ≡ None
      → GainsRest a b (streamed_from signer place [] (at ∷ []) signature) text → Gains b c (link_text form signer signature [] at) → Gains a c text
  closing_sent a b c signer place at signature text is first wrote =
      let none : first_refusal signer place [] (at ∷ []) signature ≡ None = rw is refl in
      gains_last a b c (link_text form signer signature [] at) text (rw (ap (text_from signer place [] (at ∷ []) signature) none ∙ chain_nil signer at signature) at first) wrote

  -- the closing line wasn't sent
  closing_ended_early : (a b c : Option (List ℕ)) (signer : Signer) (place : ℕ) (at : Instant) (signature text : List ℕ) (whole : Option Refusal) (early : Ending)
      → first_refusal signer place [] (at ∷ []) signature ≡ whole
      → GainsRest a b (streamed_from signer place [] (at ∷ []) signature) text
      → EndsEarly (outside_years at) (unless_refused (outside_years at) (link_text form signer signature [] at)) b c early
      → EndsEarly (refusal_fault whole) text a c early
  closing_ended_early a b c signer place at signature text whole early decided first =
      by_fault (outside_years at) refl early
    where
      whole_left : outside_years at ≡ None → GainsRest a b (link_text form signer signature [] at) text
      whole_left is =
          let none : first_refusal signer place [] (at ∷ []) signature ≡ None = rw is refl in
          rw (ap (text_from signer place [] (at ∷ []) signature) none ∙ chain_nil signer at signature) at first

      none_left : (fault : RunFault) → outside_years at ≡ Some fault → GainsRest a b [] text
      none_left fault is = rw (refused_text signer place [] (at ∷ []) signature fault (rw is refl)) at first

      by_fault : (fault : Option RunFault) → outside_years at ≡ fault → (early : Ending) → EndsEarly fault (unless_refused fault (link_text form signer signature [] at)) b c early → EndsEarly (refusal_fault whole) text a c early
      by_fault None is (refused reason) sends = let wrong : None ≡ Some reason = sends.0 in cc
      by_fault None is output_fault sends = prefix_join a b c (link_text form signer signature [] at) text (whole_left is) sends
      by_fault None is no_memory sends = prefix_join a b c (link_text form signer signature [] at) text (whole_left is) sends
      by_fault (Some fault) is (refused reason) sends =
          let same : Some fault ≡ Some reason = sends.0 in (rw (← decided, is) same, gains_last a b c [] text (none_left fault is) sends.1)
      by_fault (Some fault) is output_fault sends = prefix_join a b c [] text (none_left fault is) sends
      by_fault (Some fault) is no_memory sends = prefix_join a b c [] text (none_left fault is) sends
      by_fault fault is other sends = absurd sends

  -- ## So far

  -- with no moment left nothing is left to write
  nothing_left : (signer : Signer) (place : ℕ) (events : List Parts) (signature : List ℕ) → streamed_from signer place events [] signature ≡ []
  unfolding chain_text
  nothing_left signer place [] signature = refl
  nothing_left signer place (event ∷ events) signature = refl

  module _ (who : Signer) (events : List Parts) (seed : List ℕ) (a : Option (List ℕ)) where
    -- the frames of the events for these moments were written, and these events are left, over this signature
    pub record SoFar (b : Option (List ℕ)) (sent : List Instant) (place : ℕ) (left : List Parts) (signature : List ℕ) : Type 0 where
      pub place_is : place ≡ length sent + 1
      pub counted : length sent + length left ≡ length events
      pub refusal : (more : List Instant) → first_refusal who place left more signature ≡ first_refusal who 1 events (sent ++ more) seed
      pub gained : (more : List Instant) → GainsRest a b (streamed_from who place left more signature) (streamed_from who 1 events (sent ++ more) seed)

    -- all frames were written
    pub record IsOver (b : Option (List ℕ)) (sent : List Instant) : Type 0 where
      pub counted : length sent ≡ length events + 1
      pub refusal : first_refusal who 1 events sent seed ≡ None
      pub gained : Gains a b (streamed_from who 1 events sent seed)

    -- the state of a chain: events are left, or it is over
    pub begins_so : SoFar a [] 1 events seed
    begins_so = record {
      place_is = refl;
      counted = omega arith;
      refusal = λ more. refl;
      gained = λ more. record { front = []; gained = gains_nothing a; whole = refl };
    }

    module _ (b c : Option (List ℕ)) (sent : List Instant) (place : ℕ) (signature : List ℕ) (t : Instant) where
      -- the frame of an event was written
      pub goes_on : (event : Parts) (left : List Parts) → SoFar b sent place (event ∷ left) signature → next_refused who place signature (event ∷ left) t ≡ None
          → Gains b c (link_text form who signature (frame event) t) → SoFar c (sent ++ t ∷ []) (place + 1) left (link_signature who signature (frame event) t)
      goes_on event left so passes wrote = record {
        place_is = (let is = so.place_is in omega (arith, is, length_snoc sent));
        counted = (let is = so.counted in omega (arith, is, length_snoc sent));
        refusal = λ more. (step more).0;
        gained = λ more. (step more).1;
      }
        where
          length_snoc : (ts : List Instant) → length (ts ++ t ∷ []) ≡ length ts + 1
          length_snoc [] = refl
          length_snoc (u ∷ ts) = let others = length_snoc ts in omega (arith, others)

          sends : (unlinked who place signature event t ≡ None) × Gains b c (unless_refused (unlinked who place signature event t) (link_text form who signature (frame event) t))
          sends = (passes, rw passes wrote)

          step : (more : List Instant) → (first_refusal who (place + 1) left more (link_signature who signature (frame event) t) ≡ first_refusal who 1 events ((sent ++ t ∷ []) ++ more) seed)
              × GainsRest a c (streamed_from who (place + 1) left more (link_signature who signature (frame event) t)) (streamed_from who 1 events ((sent ++ t ∷ []) ++ more) seed)
          step more =
              let same : (sent ++ t ∷ []) ++ more ≡ sent ++ t ∷ more = append_assoc sent (t ∷ []) more in
              rw same (event_sent a b c who place event left t more signature (link_signature who signature (frame event) t) (streamed_from who 1 events (sent ++ t ∷ more) seed)
              (first_refusal who 1 events (sent ++ t ∷ more) seed) refl (so.refusal (t ∷ more)) (so.gained (t ∷ more)) sends)

      -- the closing frame was written
      pub is_over : SoFar b sent place [] signature → next_refused who place signature [] t ≡ None → Gains b c (link_text form who signature [] t) → IsOver c (sent ++ t ∷ [])
      is_over so passes wrote = record {
        counted = (let is = so.counted in omega (arith, is, length_snoc sent));
        refusal = sym (so.refusal (t ∷ [])) ∙ rw passes refl;
        gained = closing_sent a b c who place t signature _ passes (so.gained (t ∷ [])) wrote;
      }
        where
          length_snoc : (ts : List Instant) → length (ts ++ t ∷ []) ≡ length ts + 1
          length_snoc [] = refl
          length_snoc (u ∷ ts) = let others = length_snoc ts in omega (arith, others)

      -- the next frame wasn't written: it is refused, or a front of it was written
      pub is_ended_early : (left : List Parts) (early : Ending) → SoFar b sent place left signature
          → EndsEarly (next_refused who place signature left t) (unless_refused (next_refused who place signature left t) (link_text form who signature (next_bytes left) t)) b c early
          → (let refusal = first_refusal who 1 events (sent ++ t ∷ []) seed in EndsEarly (refusal_fault refusal) (streamed_text form who events (sent ++ t ∷ []) seed refusal) a c early)
      is_ended_early [] early so sends =
          rw (← streamed_first who events (sent ++ t ∷ []) seed) (closing_ended_early a b c who place t signature _ _ early (so.refusal (t ∷ [])) (so.gained (t ∷ [])) sends)
      is_ended_early (event ∷ left) early so sends =
          rw (← streamed_first who events (sent ++ t ∷ []) seed) (event_ended_early a b c who place event left t [] signature _ _ early (so.refusal (t ∷ [])) (so.gained (t ∷ [])) sends)

    -- memory ran out before the next moment
    pub is_wanting : (b : Option (List ℕ)) (sent : List Instant) (place : ℕ) (left : List Parts) (signature : List ℕ) → SoFar b sent place left signature
        → (let refusal = first_refusal who 1 events sent seed in GainsPrefix a b (streamed_text form who events sent seed refusal))
    is_wanting b sent place left signature so =
        let had = so.gained [] in
        let all : GainsRest a b [] (streamed_from who 1 events sent seed) = rw (nothing_left who place left signature, append-nil sent) at had in
        rw (← streamed_first who events sent seed) ([], all)

-- ## The moments that were needed

-- a front of a list with one more item is all but that item, or a front of the list
front_before : (sent front rest : List Instant) (t u : Instant) → sent ++ t ∷ [] ≡ front ++ u ∷ rest → (tail : List Instant) × (sent ≡ front ++ tail)
front_before sent [] rest t u is = (sent, refl)
front_before [] (v ∷ front) rest t u is = absurd (no_more front (let e : t ∷ [] ≡ v ∷ (front ++ u ∷ rest) = is in cc))
  where
    no_more : (front : List Instant) → [] ≡ front ++ u ∷ rest → ⊥
    no_more [] e = cc
    no_more (w ∷ front) e = cc
front_before (s ∷ sent) (v ∷ front) rest t u is =
    let first : s ≡ v = cc in
    let others : sent ++ t ∷ [] ≡ front ++ u ∷ rest = cc in
    let found = front_before sent front rest t u others in
    let rest_is : sent ≡ front ++ found.0 = found.1 in
    let all : s ∷ sent ≡ v ∷ (front ++ found.0) = cc in
    (found.0, all)

-- what no moment refuses no front of the moments refuses
pub front_unrefused : (signer : Signer) (place : ℕ) (events : List Parts) (front rest : List Instant) (signature : List ℕ)
    → first_refusal signer place events (front ++ rest) signature ≡ None → first_refusal signer place events front signature ≡ None
front_unrefused signer place events [] rest signature none = refl
front_unrefused signer place [] (t ∷ front) rest signature none = none
front_unrefused signer place (event ∷ events) (t ∷ front) rest signature none =
    by_link (unlinked signer place signature event t) (front_unrefused signer (place + 1) events front rest (link_signature signer signature (frame event) t)) none
  where
    by_link : (fault : Option RunFault)
        → (first_refusal signer (place + 1) events (front ++ rest) (link_signature signer signature (frame event) t) ≡ None → first_refusal signer (place + 1) events front (link_signature signer signature (frame event) t) ≡ None)
        → option_or (option_map (refusal_at place) fault) (first_refusal signer (place + 1) events (front ++ rest) (link_signature signer signature (frame event) t)) ≡ None
        → option_or (option_map (refusal_at place) fault) (first_refusal signer (place + 1) events front (link_signature signer signature (frame event) t)) ≡ None
    by_link None others none = others none
    by_link (Some fault) others none = cc

length_front : (front tail : List Instant) → length front ≤ length (front ++ tail)
length_front [] tail = omega arith
length_front (t ∷ front) tail = let others = length_front front tail in omega (arith, others)

length_before : (front rest : List Instant) (t : Instant) → length front + 1 ≤ length (front ++ t ∷ rest)
length_before [] rest t = omega arith
length_before (u ∷ front) rest t = let others = length_before front rest t in omega (arith, others)

module _ (who : Signer) (events : List Parts) (seed : List ℕ) (sent : List Instant) (none : first_refusal who 1 events sent seed ≡ None) where
  -- each of the moments that refuse nothing was needed
  pub sent_needed : length sent ≤ length events + 1 → TakesInTurn who events seed sent
  sent_needed within front t rest is =
      let count : length front + 1 ≤ length sent = rw is (length_before front rest t) in
      (front_unrefused who 1 events front (t ∷ rest) seed (rw is at none), omega (arith, count, within))

  -- and so was the one after them, where events or the closing frame are left
  pub next_needed : (t : Instant) → length sent ≤ length events → TakesInTurn who events seed (sent ++ t ∷ [])
  next_needed t within front u rest is =
      let found = front_before sent front rest t u is in
      let count : length front ≤ length sent = rw found.1 (length_front front found.0) in
      (front_unrefused who 1 events front found.0 seed (rw found.1 at none), omega (arith, count, within))

-- ## No refusal

none_of : (a b : Option RunFault) → option_or a b ≡ None → (a ≡ None) × (b ≡ None)
none_of None b none = (refl, none)
none_of (Some fault) b none = cc

none_at : (place : ℕ) (reason : Option ErrorKind) → option_map (fault_at place) reason ≡ None → reason ≡ None
none_at place None none = refl
none_at place (Some reason) none = cc

none_refused : (place : ℕ) (fault : Option RunFault) → option_map (refusal_at place) fault ≡ None → fault ≡ None
none_refused place None none = refl
none_refused place (Some fault) none = cc

none_first : (a b : Option Refusal) → option_or a b ≡ None → (a ≡ None) × (b ≡ None)
none_first None b none = (refl, none)
none_first (Some refusal) b none = cc

linked_frames : (signer : Signer) (place : ℕ) (signature : List ℕ) (event : Parts) (at : Instant) → unlinked signer place signature event at ≡ None
    → (unframed event ≡ None) × IsInYears at × (unframed (link_message signer signature (frame event) at) ≡ None)
unfolding unlinked
linked_frames signer place signature event at linked =
    let first = none_of (unframed_at place event) _ linked in
    let second = none_of (outside_years at) _ first.1 in
    (none_at place (unframed event) first.0, in_years at (inside_years at second.0), none_at place (unframed (link_message signer signature (frame event) at)) second.1)

-- where there is one moment more than events and none is refused the chain is defined
pub unrefused_frames : (signer : Signer) (place : ℕ) (events : List Parts) (moments : List Instant) (signature : List ℕ) → length moments ≡ length events + 1
    → first_refusal signer place events moments signature ≡ None → IsWholeChain signer events moments signature
unrefused_frames signer place [] [] signature counted none = absurd (omega arith)
unrefused_frames signer place (event ∷ events) [] signature counted none = absurd (omega arith)
unrefused_frames signer place [] (at ∷ []) signature counted none =
    let within = in_years at (inside_years at (none_refused place (outside_years at) none)) in
    (within, closing_framed signer signature at within)
unrefused_frames signer place [] (at ∷ more ∷ moments) signature counted none = absurd (omega arith)
unrefused_frames signer place (event ∷ events) (at ∷ moments) signature counted none =
    let parts = none_first (option_map (refusal_at place) (unlinked signer place signature event at)) _ none in
    let frames = linked_frames signer place signature event at (none_refused place (unlinked signer place signature event at) parts.0) in
    (frames.0, frames.1, frames.2, unrefused_frames signer (place + 1) events moments (link_signature signer signature (frame event) at) (omega arith) parts.1)

-- where the chain is defined none is refused
pub frames_unrefused : (signer : Signer) (place : ℕ) (events : List Parts) (moments : List Instant) (signature : List ℕ)
    → IsWholeChain signer events moments signature → first_refusal signer place events moments signature ≡ None
unfolding unlinked
frames_unrefused signer place [] [] signature chained = absurd chained
frames_unrefused signer place (event ∷ events) [] signature chained = absurd chained
frames_unrefused signer place [] (at ∷ []) signature chained = rw (years_in at chained.0) refl
frames_unrefused signer place [] (at ∷ more ∷ moments) signature chained = absurd chained
frames_unrefused signer place (event ∷ events) (at ∷ moments) signature chained =
    let others = frames_unrefused signer (place + 1) events moments (link_signature signer signature (frame event) at) chained.3 in
    rw (chained.0, years_in at chained.1, chained.2, others) refl
