-- An adapter whose items are messages as they are, and whose signer seals them, answers the frames of the chain.
use Rattle.std.proofs.Common.{◌≡◌, ℕ, inl, inr, List, [], ◌∷◌, ◌++◌, map, Option, Some, None, Result, Ok, Err, sym, ap, subst, ◌∙◌}
use Rattle.std.proofs.lemmas.List.{append_assoc}
use Rattle.smithy_core.specs.Message.{Parts}
use Rattle.smithy_core.specs.Moment.{Instant}
use Rattle.smithy_core.specs.declared.outside.clock.Clock as Clock
use Rattle.smithy_core.specs.declared.sdk_error.SdkError.TheVariants.{ConstructionFailure, DispatchFailure, NoMemory, ResponseError, ServiceError}
use Rattle.eventstream.specs.Frame.{frame, unframed}
use Rattle.eventstream.specs.Key.{Signer}
use Rattle.eventstream.specs.Link.{begun, link_signature}
use Rattle.eventstream.specs.Told.{SignsLink, Signs, SignsEmpty, signs_over}
use Rattle.eventstream.specs.declared.error.Error.{Error}
use Rattle.eventstream.specs.declared.marshall.MarshallMessage as MarshallMessage
use Rattle.eventstream.specs.declared.sign.SignMessage as SignMessage
use Rattle.eventstream.specs.declared.sign_error.SignMessageError.{SignMessageError}
use Rattle.eventstream.specs.declared.sign_error.SignMessageError.TheVariants as signing
use Rattle.event_io.specs.Adapter.{Asks, Frames, Marshals, Polls, PollsOpen, TakesMoment, NamesSendWant}
use Rattle.event_io.specs.AdapterFault.{SendError, send_error}
use Rattle.event_io.specs.Chain.{Chains, ChainsOn, HasSent, IsIdentity, PollsChain, StaysWithinLink, next_bytes, next_unsigned}
use Rattle.event_io.specs.EventSource.{IsUsedUp, TakesItem}
use Rattle.event_io.specs.declared.adapter.MessageStreamAdapter.{MessageStreamAdapter}
use Rattle.event_io.specs.declared.adapter.Next.{Next}
use Rattle.event_io.specs.declared.adapter.Next.TheVariants.{Frame, NotYet, End}
use Rattle.event_io.specs.declared.adapter.Phase.TheVariants.{Open, Ended, Closed}
use Rattle.event_io.specs.declared.adapter_fault.AdapterFault.TheVariants.{Marshall, Sign, Write}
use Rattle.event_io.specs.declared.event_source.EventSource as EventSource

-- the item that is taken is the first, and the others are left
took : {X : Type 0} (item first : X) (rest : List X) (now : Option (List X)) → TakesItem item (Some (first ∷ rest)) now → (item ≡ first) × (now ≡ Some rest)
took item first rest None takes = absurd takes
took item first rest (Some left) takes = (cc, cc)

-- no item is taken of none
took_none : {X : Type 0} (item : X) (now : Option (List X)) → TakesItem item (Some []) now → ⊥
took_none item None takes = takes
took_none item (Some left) takes = let no : ⊥ = cc in no

-- an item that is there isn't used up
not_used_up : {X : Type 0} (first : X) (rest : List X) → IsUsedUp (Some (first ∷ rest)) → ⊥
not_used_up first rest used = let no : ⊥ = cc in no

-- answers of equal messages
ok_same : (message other : Parts) → (let answer : Parts → Result Parts Error = λ m. Ok m in answer message ≡ answer other) → message ≡ other
ok_same message other is = cc

-- that memory ran out isn't answered as a fault
no_want : (error : SignMessageError) → error ≡ signing.NoMemory → send_error (Sign error) ≡ ConstructionFailure (Sign error) → ⊥
no_want error is tells =
    let wants : send_error (Sign error) ≡ NoMemory = ap (λ (e : SignMessageError). send_error (Sign e)) is in
    let no : ⊥ = cc in no

module _ {S M EM G E : Type 0} (source : EventSource.Ghosts S Parts E) (marshaller : MarshallMessage.Ghosts M Parts) (error_marshaller : MarshallMessage.Ghosts EM E)
    (signer : SignMessage.Ghosts G) (identity : IsIdentity marshaller) (who : Signer) where
  -- the message of an event is the event
  message_is : (old : MessageStreamAdapter S M EM G) (item : Result Parts E) (event message : Parts) → item ≡ Ok event
      → Marshals marshaller error_marshaller old item (Ok message) → message ≡ event
  message_is old item event message is marshalled =
      ok_same message event (identity old.marshaller event (Ok message) (subst (λ i. Marshals marshaller error_marshaller old i (Ok message)) is marshalled))

  -- the signer is asked for the next event, or for the end
  next_asked : (events : List Parts) (signature : List ℕ) (old new : MessageStreamAdapter S M EM G) (t : Instant) (signed : Result Parts SignMessageError)
      → Chains source signer who events signature old → Asks source marshaller error_marshaller signer old new t signed
      → SignsLink (next_unsigned events t) signature who (next_bytes events) t signed (signer.told new.signer)
      × ((next : List ℕ) → signer.told new.signer ≡ signs_over next who → ChainsOn source signer who events next new)
  next_asked [] signature old new t signed chains (inl item) =
      absurd (took_none item.item (source.left new.source) (subst (λ left. TakesItem item.item left (source.left new.source)) chains.left item.taken))
  next_asked (event ∷ events) signature old new t signed chains (inl item) =
      let taken = took item.item (Ok event) (map (λ e. Ok e) events) (source.left new.source)
      (subst (λ left. TakesItem item.item left (source.left new.source)) chains.left item.taken) in
      let is : item.message ≡ event = message_is old item.item event item.message taken.0 item.marshalled in
      let told : Signs (signs_over signature who) item.message t signed (signer.told new.signer) =
      subst (λ told. Signs told item.message t signed (signer.told new.signer)) chains.told item.told in (
        subst (λ message. Signs (signs_over signature who) message t signed (signer.told new.signer)) is told,
        λ next after. record { goes_on = item.goes_on; left = taken.1; told = after },
      )
  next_asked [] signature old new t signed chains (inr end) =
      (subst (λ told. SignsEmpty told t (Some signed) (signer.told new.signer)) chains.told end.told, λ next after. end.ended)
  next_asked (event ∷ events) signature old new t signed chains (inr end) = absurd (not_used_up _ _ (subst IsUsedUp chains.left end.used_up))

  module _ {C : Type 0} (clock : Clock.Ghosts C) (before now : C) (old_moments moments : List Instant) where
    -- an adapter that goes on
    polled : (events : List Parts) (signature : List ℕ) (old new : MessageStreamAdapter S M EM G) (result : Result Next SendError)
        → Chains source signer who events signature old → NamesSendWant result
        → PollsOpen source marshaller error_marshaller signer clock before now old_moments moments old new result
        → PollsChain source signer clock before now old_moments moments who events signature old new result
    polled events signature old new (Ok (Frame bytes)) chains tells (t, takes, signed, asks, frames) =
        by signed (next_asked events signature old new t signed chains asks) frames where
          by : (signed : Result Parts SignMessageError)
              → SignsLink (next_unsigned events t) signature who (next_bytes events) t signed (signer.told new.signer)
              × ((next : List ℕ) → signer.told new.signer ≡ signs_over next who → ChainsOn source signer who events next new)
              → Frames signed (Ok (Frame bytes)) → PollsChain source signer clock before now old_moments moments who events signature old new (Ok (Frame bytes))
          by (Ok message) (seals, goes) frames =
              (t, takes, seals.0, ap unframed (sym seals.1) ∙ frames.0, frames.1 ∙ ap frame seals.1, goes _ seals.2)
          by (Err refusal) asked frames = absurd frames
    polled events signature old new (Ok NotYet) chains tells (waits, none) = (
      waits.waited,
      record {
        goes_on = waits.goes_on;
        left = waits.kept ∙ chains.left;
        told = ap signer.told waits.signer_stays ∙ chains.told;
      },
      none,
    )
    polled events signature old new (Ok End) chains tells (t, takes, end) = absurd (subst (λ told. SignsEmpty told t None (signer.told new.signer)) chains.told end.told)
    polled events signature old new (Err (ConstructionFailure (Marshall error))) chains tells (refuses, none) = by events chains where
      by : (events : List Parts) → Chains source signer who events signature old → ⊥
      by [] chains = took_none refuses.item (source.left new.source) (subst (λ left. TakesItem refuses.item left (source.left new.source)) chains.left refuses.taken)
      by (event ∷ events) chains =
          let taken = took refuses.item (Ok event) (map (λ e. Ok e) events) (source.left new.source)
          (subst (λ left. TakesItem refuses.item left (source.left new.source)) chains.left refuses.taken) in
          let is : Err error ≡ Ok event = identity old.marshaller event (Err error) (subst (λ i. Marshals marshaller error_marshaller old i (Err error)) taken.0 refuses.refused) in
          let no : ⊥ = cc in no
    polled events signature old new (Err (ConstructionFailure (Sign error))) chains tells (t, takes, signed, asks, frames) =
        by signed (next_asked events signature old new t signed chains asks) frames where
          by : (signed : Result Parts SignMessageError)
              → SignsLink (next_unsigned events t) signature who (next_bytes events) t signed (signer.told new.signer)
              × ((next : List ℕ) → signer.told new.signer ≡ signs_over next who → ChainsOn source signer who events next new)
              → Frames signed (Err (ConstructionFailure (Sign error)))
              → PollsChain source signer clock before now old_moments moments who events signature old new (Err (ConstructionFailure (Sign error)))
          by (Ok message) asked frames = absurd frames
          by (Err refusal) ((inl is, stays), goes) frames = (t, takes, is ∙ ap (λ (e : SignMessageError). Some e) (sym frames), goes _ stays)
          by (Err refusal) ((inr is, stays), goes) frames = absurd (no_want error (frames ∙ is) tells)
    polled events signature old new (Err (ConstructionFailure (Write error))) chains tells (t, takes, signed, asks, frames) =
        by signed (next_asked events signature old new t signed chains asks) frames where
          by : (signed : Result Parts SignMessageError)
              → SignsLink (next_unsigned events t) signature who (next_bytes events) t signed (signer.told new.signer)
              × ((next : List ℕ) → signer.told new.signer ≡ signs_over next who → ChainsOn source signer who events next new)
              → Frames signed (Err (ConstructionFailure (Write error)))
              → PollsChain source signer clock before now old_moments moments who events signature old new (Err (ConstructionFailure (Write error)))
          by (Ok message) (seals, goes) frames = (t, takes, seals.0, ap unframed (sym seals.1) ∙ frames, goes _ seals.2)
          by (Err refusal) asked frames = absurd frames
    polled events signature old new (Err NoMemory) chains tells (left, is, inl (unasked, none)) = inl none
    polled events signature old new (Err NoMemory) chains tells (left, is, inr (t, takes, signed, asks)) = inr (t, takes)
    polled events signature old new (Err DispatchFailure) chains tells (t, takes, signed, asks, frames) = by signed frames where
      by : (signed : Result Parts SignMessageError) → Frames signed (Err DispatchFailure) → ⊥
      by (Ok message) frames = frames
      by (Err refusal) frames = frames
    polled events signature old new (Err (ResponseError fault raw)) chains tells (t, takes, signed, asks, frames) = by signed frames where
      by : (signed : Result Parts SignMessageError) → Frames signed (Err (ResponseError fault raw)) → ⊥
      by (Ok message) frames = frames
      by (Err refusal) frames = frames
    polled events signature old new (Err (ServiceError fault raw)) chains tells (t, takes, signed, asks, frames) = by signed frames where
      by : (signed : Result Parts SignMessageError) → Frames signed (Err (ServiceError fault raw)) → ⊥
      by (Ok message) frames = frames
      by (Err refusal) frames = frames

    -- each call answers the next frame of the chain, or why there is none
    pub chain_polled : (events : List Parts) (signature : List ℕ) (old new : MessageStreamAdapter S M EM G) (result : Result Next SendError)
        → Chains source signer who events signature old → NamesSendWant result
        → Polls source marshaller error_marshaller signer clock before now old_moments moments old new result
        → PollsChain source signer clock before now old_moments moments who events signature old new result
    chain_polled events signature old new result chains tells (inl (goes_on, polls)) = polled events signature old new result chains tells polls
    chain_polled events signature old new result chains tells (inr (inl ended, is, same, none)) =
        let goes_on : old.phase ≡ Open = chains.goes_on in let over : old.phase ≡ Ended = ended in let no : ⊥ = cc in absurd no
    chain_polled events signature old new result chains tells (inr (inr closed, is, same, none)) =
        let goes_on : old.phase ≡ Open = chains.goes_on in let over : old.phase ≡ Closed = closed in let no : ⊥ = cc in absurd no

    open_stays : (events : List Parts) (signature : List ℕ) (old new : MessageStreamAdapter S M EM G) → Chains source signer who events signature old
        → PollsOpen source marshaller error_marshaller signer clock before now old_moments moments old new (Err NoMemory)
        → StaysWithinLink source signer clock before now old_moments moments who events signature new
    open_stays events signature old new chains (left, is, inl (unasked, none)) = rw is (inl (ap signer.told unasked.signer_stays ∙ chains.told))
    open_stays events signature old new chains (left, is, inr (t, takes, signed, asks)) = by signed (next_asked events signature old left t signed chains asks) where
      by : (signed : Result Parts SignMessageError)
          → SignsLink (next_unsigned events t) signature who (next_bytes events) t signed (signer.told left.signer)
          × ((next : List ℕ) → signer.told left.signer ≡ signs_over next who → ChainsOn source signer who events next left)
          → StaysWithinLink source signer clock before now old_moments moments who events signature new
      by (Ok message) (seals, goes) = rw is (inr (t, takes, seals.2))
      by (Err refusal) (seals, goes) = rw is (inl seals.1)

    -- where memory ran out the signer is told as before, or one link on
    pub chain_stays : (events : List Parts) (signature : List ℕ) (old new : MessageStreamAdapter S M EM G) → Chains source signer who events signature old
        → Polls source marshaller error_marshaller signer clock before now old_moments moments old new (Err NoMemory)
        → StaysWithinLink source signer clock before now old_moments moments who events signature new
    chain_stays events signature old new chains (inl polls) = open_stays events signature old new chains polls.1
    chain_stays events signature old new chains (inr (over, is, same, none)) = let no : ⊥ = cc in absurd no

    -- one frame more, at the moment that the call took
    pub frame_sent : (events : List Parts) (signature : List ℕ) (frames : List (List ℕ)) (sent : List Instant) (old new : MessageStreamAdapter S M EM G) (bytes : List ℕ)
        → NamesSendWant (Ok (Frame bytes)) → Polls source marshaller error_marshaller signer clock before now old_moments moments old new (Ok (Frame bytes))
        → HasSent source signer who events signature frames sent old
        → (t : Instant) × TakesMoment clock before now old_moments moments t × HasSent source signer who events signature (frames ++ bytes ∷ []) (sent ++ t ∷ []) new
    frame_sent events signature frames sent old new bytes tells polls (inl (left, next, chains, goes)) =
        by left goes (chain_polled left next old new (Ok (Frame bytes)) chains tells polls) where
          by : (left : List Parts) → ((more : List Instant) → frames ++ begun who left more next ≡ begun who events (sent ++ more) signature)
              → PollsChain source signer clock before now old_moments moments who left next old new (Ok (Frame bytes))
              → (t : Instant) × TakesMoment clock before now old_moments moments t × HasSent source signer who events signature (frames ++ bytes ∷ []) (sent ++ t ∷ []) new
          by [] goes (t, takes, fine, fit, is, on) = (t, takes, inr (on, ap (λ (b : List ℕ). frames ++ b ∷ []) is ∙ goes (t ∷ [])))
          by (event ∷ later) goes (t, takes, fine, fit, is, on) =
              let signed : List ℕ = link_signature who next (frame event) t in (
                t,
                takes,
                inl (
                  later,
                  signed,
                  on,
                  λ more.
                      append_assoc frames (bytes ∷ []) (begun who later more signed)
                      ∙ ap (λ (b : List ℕ). frames ++ b ∷ begun who later more signed) is
                      ∙ goes (t ∷ more)
                      ∙ ap (λ (ts : List Instant). begun who events ts signature) (sym (append_assoc sent (t ∷ []) more)),
                ),
              )
    frame_sent events signature frames sent old new bytes tells (inl (goes_on, polls)) (inr (ended, all)) =
        let one : old.phase ≡ Open = goes_on in let other : old.phase ≡ Ended = ended in let no : ⊥ = cc in absurd no
    frame_sent events signature frames sent old new bytes tells (inr (over, is, same, none)) (inr (ended, all)) =
        let no : ⊥ = cc in absurd no
