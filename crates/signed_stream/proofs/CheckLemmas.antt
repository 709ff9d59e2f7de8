-- How the check of a record ends, and what it writes.
use Rattle.std.proofs.Common.{◌≡◌, ℕ, inl, inr, List, [], ◌∷◌, ◌++◌, length, Option, None, refl, sym, ap, ◌∙◌, subst}
use Rattle.std.specs.Global.{Vec}
use Rattle.std.specs.List.{AllByRecursion}
use Rattle.std.specs.Prelude.{Result, Ok, Err, string_bytes}
use Rattle.std.proofs.lemmas.List.Elements.{All-from_recursion}
use Rattle.smithy_core.specs.Message.{Parts}
use Rattle.smithy_core.specs.Moment.{Instant}
use Rattle.smithy_core.specs.Outside.{Gains, GainsRest}
use Rattle.smithy_core.specs.declared.request.HttpRequest.{HttpRequest}
use Rattle.smithy_core.proofs.GainLemmas.{gains_at_start, gains_front}
use Rattle.eventstream.specs.Frame.{frame, unframed}
use Rattle.eventstream.specs.Key.{Signer}
use Rattle.eventstream.specs.Link.{link_signature}
use Rattle.chain_watch.specs.Chain.{IsChainOf, IsWholeChain, carried_moments}
use Rattle.chain_watch.specs.Walk.{AnswersChain, chain_events}
use Rattle.chain_watch.specs.declared.chain_fault.ChainFault.{ChainFault}
use Rattle.chain_watch.specs.declared.chain_fault.ChainFault.TheVariants as chains
use Rattle.request_check.specs.Sealed.{IsSealed, SealParts}
use Rattle.request_check.proofs.SealLemmas.{one_seal}
use Rattle.signed_stream.specs.CheckRecord.{CarriesSeal, ChecksRecord, GoesForSeal, checked_plan, shown_events}
use Rattle.signed_stream.specs.EventLines.{AreFramed, count_line, event_lines}
use Rattle.signed_stream.specs.Sending.{EndsEarly, Sends}
use Rattle.signed_stream.specs.Plan.{GoesAsPlanned, sealed_over, stops, unsought}
use Rattle.signed_stream.specs.Settings.{Selected}
use Rattle.signed_stream.specs.Status.{Ending, chain_ending, ending_of, no_memory, ended}
use Rattle.signed_stream.specs.declared.status.Status.{Status}
use Rattle.signed_stream.specs.declared.status.StreamFault.{StreamFault}
use Rattle.signed_stream.proofs.EventLineLemmas.{front_ended_early}
use Rattle.signed_stream.proofs.SendLemmas.{text_goes}

-- ## The events of a chain

-- each event of a chain has a frame
framed_from : (signer : Signer) (events : List Parts) (moments : List Instant) (signature : List ℕ) → IsWholeChain signer events moments signature → AllByRecursion (λ event. unframed event ≡ None) events
framed_from signer [] moments signature chained = tt
framed_from signer (event ∷ events) [] signature chained = absurd chained
framed_from signer (event ∷ events) (at ∷ moments) signature chained =
    (chained.0, framed_from signer events moments (link_signature signer signature (frame event) at) chained.3)

framed_events : (signer : Signer) (seed bytes : List ℕ) (events : List Parts) → IsChainOf signer seed bytes events → AreFramed events
framed_events signer seed bytes events is =
    All-from_recursion (λ event. unframed event ≡ None) events (framed_from signer events (carried_moments bytes) seed is.chained)

-- ## What is checked

-- the signature that was checked is that of the request's one seal
seal_carried : (request : HttpRequest) (region name : List ℕ) (seal : SealParts) → IsSealed request region name seal → CarriesSeal request.headers (string_bytes request.target) region name (sealed_over seal.signature)
seal_carried request region name seal is = (seal, is, refl, λ other carries. one_seal request region name other seal carries is)

module _ (request : HttpRequest) (name : List ℕ) (selected : Selected) (chain : List ℕ) where
  -- memory runs out
  pub checks_no_memory : (status : Status) → ending_of status ≡ no_memory → ChecksRecord request name selected chain (Err status)
  checks_no_memory status is = (unsought, tt, ap stops (sym is))

  -- the frames aren't the chain over its signature
  pub checks_unchained : (seal : SealParts) (fault : ChainFault) (status : Status) → IsSealed request selected.region name seal
      → AnswersChain (chain_events (record { secret = selected.secret; region = selected.region; name = name }) seal.signature chain) (Err fault)
      → ending_of status ≡ chain_ending fault → ChecksRecord request name selected chain (Err status)
  checks_unchained seal chains.NoMemory status sealed answers is = checks_no_memory status is
  checks_unchained seal (chains.NotChain place part) status sealed (inl failed) is =
      (sealed_over seal.signature, seal_carried request selected.region name seal sealed, ap checked_plan failed ∙ ap stops (sym is))
  checks_unchained seal (chains.NotChain place part) status sealed (inr wanted) is = cc wanted
  checks_unchained seal (chains.Mismatch place carried recomputed) status sealed (inl failed) is =
      (sealed_over seal.signature, seal_carried request selected.region name seal sealed, ap checked_plan failed ∙ ap stops (sym is))
  checks_unchained seal (chains.Mismatch place carried recomputed) status sealed (inr wanted) is = cc wanted

  -- they are
  pub checks_chained : (seal : SealParts) (events : Vec Parts) → IsSealed request selected.region name seal
      → chain_events (record { secret = selected.secret; region = selected.region; name = name }) seal.signature chain ≡ Ok events.items
      → IsChainOf (record { secret = selected.secret; region = selected.region; name = name }) seal.signature chain events.items
      → ChecksRecord request name selected chain (Ok events)
  checks_chained seal events sealed answers exact =
      (seal.signature, seal_carried request selected.region name seal sealed, answers, framed_events _ seal.signature chain events.items exact)

  -- the events that pass are written
  pub events_go : {T : Type 0} (events : Vec Parts) (answer : Result T StreamFault) (before now : Option (List ℕ)) → ChecksRecord request name selected chain (Ok events)
      → Sends None (shown_events events.items) before now answer → GoesForSeal request name selected chain (ended answer) before now
  events_go events answer before now checked sends =
      (sealed_over checked.0, checked.1, subst (λ plan. GoesAsPlanned plan (ended answer) before now) (sym (ap checked_plan checked.2)) (text_goes (shown_events events.items) before now answer sends))

-- ## What is written

-- how many events there are is written first
pub count_sent : (before now : Option (List ℕ)) (events : List Parts) → Gains before now (count_line (length events)) → GainsRest before now (event_lines events) (shown_events events)
unfolding shown_events
count_sent before now events sends = gains_front before now (count_line (length events)) (event_lines events) sends

pub count_ended_early : (before now : Option (List ℕ)) (events : List Parts) (early : Ending) → EndsEarly None (count_line (length events)) before now early → EndsEarly None (shown_events events) before now early
unfolding shown_events
count_ended_early before now events early ends_early =
    let front = count_line (length events) in
    front_ended_early before before now front (event_lines events) (front ++ event_lines events) early (gains_at_start before (front ++ event_lines events)) ends_early
