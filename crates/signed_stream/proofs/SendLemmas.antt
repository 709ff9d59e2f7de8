-- A head and lines that are sent after it.
use Rattle.std.proofs.Common.{◌≡◌, ◌==◌, ℕ, ◌+◌, inl, inr, true, List, [], ◌++◌, length, Option, Some, None, refl, arith}
use Rattle.std.specs.Prelude.{Result, Ok, Err}
use Rattle.std.proofs.lemmas.Bool.{eq-eqb}
use Rattle.smithy_core.specs.Moment.{Instant}
use Rattle.smithy_core.specs.Outside.{Gains}
use Rattle.smithy_core.specs.Message.{Parts}
use Rattle.smithy_core.proofs.GainLemmas.{gains_front, gains_last, prefix_join, prefix_within}
use Rattle.eventstream.specs.Key.{Signer}
use Rattle.sigv4.specs.Request.{Case}
use Rattle.sigv4.specs.Signed.{signature_of}
use Rattle.signed_stream.specs.declared.form.Form.{Form}
use Rattle.signed_stream.specs.declared.status.StreamFault.{StreamFault}
use Rattle.signed_stream.specs.Chain.{Refusal, refusal_fault, streamed_text}
use Rattle.signed_stream.specs.Plan.{GoesAsPlanned, writes}
use Rattle.signed_stream.specs.Running.{IsOfOutput}
use Rattle.signed_stream.specs.Sending.{IsWhole, SendsAll, SendsChain, EndsEarly, Sends}
use Rattle.signed_stream.specs.Status.{Ending, RunFault, done, no_memory, output_fault, refused, stream_ending, ended}
use Rattle.signed_stream.specs.Written.{signed_head, written_stream, written_before, written_end, written_until}
use Rattle.signed_stream.proofs.ChainLemmas.{sent_needed}

-- the text that is written is the head, and then the lines that are streamed
pub written_lines : (form : Form) (refusal : Option Refusal) (target : List ℕ) (c : Case) (events : List Parts) (moments : List Instant)
    → written_until form refusal target c events moments ≡ signed_head form target c ++ streamed_text form c.signer events moments (signature_of c) refusal
unfolding written_stream written_before
written_lines form None target c events moments = refl
written_lines form (Some refusal) target c events moments = refl

-- a back is sent after its front
back_ended_early : (a b c : Option (List ℕ)) (front back : List ℕ) (fault : Option RunFault) (early : Ending)
    → Gains a b front → EndsEarly fault back b c early → EndsEarly fault (front ++ back) a c early
back_ended_early a b c front back fault (refused reason) first second = (second.0, gains_last a b c back (front ++ back) (gains_front a b front back first) second.1)
back_ended_early a b c front back fault output_fault first second = prefix_join a b c back (front ++ back) (gains_front a b front back first) second
back_ended_early a b c front back fault no_memory first second = prefix_join a b c back (front ++ back) (gains_front a b front back first) second
back_ended_early a b c front back fault other first second = absurd second

back_sent : {T : Type 0} (a b c : Option (List ℕ)) (front back : List ℕ) (fault : Option RunFault) (answer : Result T StreamFault)
    → Gains a b front → Sends fault back b c answer → Sends fault (front ++ back) a c answer
back_sent a b c front back fault (Ok x) first second = (second.0, gains_last a b c back (front ++ back) (gains_front a b front back first) second.1)
back_sent a b c front back fault (Err reason) first second = back_ended_early a b c front back fault (stream_ending reason) first second

-- a front that isn't whole is a front of all
front_ended_early : (a b : Option (List ℕ)) (front back : List ℕ) (fault : Option RunFault) (early : Ending)
    → EndsEarly None front a b early → EndsEarly fault (front ++ back) a b early
front_ended_early a b front back fault (refused reason) ends_early = let wrong : None ≡ Some reason = ends_early.0 in cc
front_ended_early a b front back fault output_fault ends_early = prefix_within a b front back ends_early
front_ended_early a b front back fault no_memory ends_early = prefix_within a b front back ends_early
front_ended_early a b front back fault other ends_early = absurd ends_early

module _ {T : Type 0} (form : Form) (head : List ℕ) (who : Signer) (events : List Parts) (seed : List ℕ) where
  -- frames after a head that was sent
  pub sent_after : (a b c : Option (List ℕ)) (moments : List Instant) (answer : Result T StreamFault) → Gains a b head
      → SendsChain form who events seed b c moments answer → SendsAll form head who events seed a c moments answer
  sent_after a b c moments answer first chain = record {
    sends = back_sent a b c head _ _ answer first chain.sends;
    whole = chain.whole;
    next = chain.next;
  }

  -- a head that wasn't
  pub ended_early_before : (a b : Option (List ℕ)) (fault : StreamFault) → EndsEarly None head a b (stream_ending fault)
      → SendsAll {T = T} form head who events seed a b [] (Err fault)
  ended_early_before a b fault ends_early = record {
    sends = front_ended_early a b head (streamed_text form who events [] seed None) None (stream_ending fault) ends_early;
    whole = tt;
    next = sent_needed who events seed [] refl (omega arith);
  }

-- an answer that sends what a plan is to write goes as planned
pub sends_goes : {T : Type 0} (refusal : Option Refusal) (text : List ℕ) (events : List Parts) (moments : List Instant) (before now : Option (List ℕ)) (answer : Result T StreamFault)
    → Sends (refusal_fault refusal) text before now answer → IsWhole events moments answer
    → GoesAsPlanned (writes text (written_end refusal events moments)) (ended answer) before now
sends_goes None text events moments before now (Ok x) sends counted =
    let same : (length moments == length events + 1) ≡ true = eq-eqb _ _ counted in record { ends = rw same (inl refl); gains = sends.1 }
sends_goes (Some refusal) text events moments before now (Ok x) sends counted = let wrong : Some refusal.fault ≡ None = sends.0 in cc
sends_goes refusal text events moments before now (Err reason) sends counted = by_early refusal (stream_ending reason) sends
  where
    by_early : (refusal : Option Refusal) (early : Ending) → EndsEarly (refusal_fault refusal) text before now early → GoesAsPlanned (writes text (written_end refusal events moments)) early before now
    by_early None (refused reason) ends_early = let wrong : None ≡ Some reason = ends_early.0 in cc
    by_early (Some refusal) (refused reason) ends_early = let same : refusal.fault ≡ reason = (let is : Some refusal.fault ≡ Some reason = ends_early.0 in cc) in record { ends = rw same (inl refl); gains = ends_early.1 }
    by_early refusal output_fault ends_early = record { ends = inr (inr (inl refl)); gains = ends_early }
    by_early refusal no_memory ends_early = record { ends = inr (inr (inr refl)); gains = ends_early }
    by_early refusal other ends_early = absurd ends_early

-- a text alone
pub text_goes : {T : Type 0} (text : List ℕ) (before now : Option (List ℕ)) (answer : Result T StreamFault) → Sends None text before now answer → GoesAsPlanned (writes text done) (ended answer) before now
text_goes text before now (Ok x) sends = record { ends = inl refl; gains = sends.1 }
text_goes text before now (Err reason) sends = by_early (stream_ending reason) sends
  where
    by_early : (early : Ending) → EndsEarly None text before now early → GoesAsPlanned (writes text done) early before now
    by_early (refused reason) ends_early = let wrong : None ≡ Some reason = ends_early.0 in cc
    by_early output_fault ends_early = record { ends = inr (inr (inl refl)); gains = ends_early }
    by_early no_memory ends_early = record { ends = inr (inr (inr refl)); gains = ends_early }
    by_early other ends_early = absurd ends_early

-- which ends for no more than the output and memory
pub text_ends : {T : Type 0} (text : List ℕ) (before now : Option (List ℕ)) (answer : Result T StreamFault) → Sends None text before now answer → IsOfOutput (ended answer)
text_ends text before now (Ok x) sends = tt
text_ends text before now (Err reason) sends = by_early (stream_ending reason) sends
  where
    by_early : (early : Ending) → EndsEarly None text before now early → IsOfOutput early
    by_early (refused reason) ends_early = let wrong : None ≡ Some reason = ends_early.0 in cc
    by_early output_fault ends_early = tt
    by_early no_memory ends_early = tt
    by_early other ends_early = absurd ends_early
