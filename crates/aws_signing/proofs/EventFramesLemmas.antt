-- The frames of one message after another are those of the chain.
use Rattle.std.proofs.Common.{◌≡◌, ◌∙◌, ℕ, suc, ◌⊎◌, inl, inr, List, [], ◌∷◌, ◌++◌, length, replicate, Some, None, Ok, Err, refl, sym, ap, append_assoc}
use Rattle.smithy_core.specs.Message.{Parts}
use Rattle.smithy_core.specs.Moment.{Instant}
use Rattle.eventstream.specs.Frame.{frame, unframed}
use Rattle.eventstream.specs.Key.{Signer}
use Rattle.eventstream.specs.Link.{chain, link_signature}
use Rattle.sigv4.specs.declared.error.SigningError.{SigningError}
use Rattle.sigv4.specs.declared.error.SigningError.TheVariants.{NoMemory}
use Rattle.aws_signing.specs.EventFrames.{IsChainedSoFar, ClosesEvents, EventsState, FramesAll, FramesEvent, FramesLink, after_link, frame_refusal, next_link, stream_frames, stream_refusal}
use Rattle.aws_signing.specs.SigningFaults.{of_signing}
use Rattle.aws_signing.specs.declared.fault.AwsSigningError.{AwsSigningError}
use Rattle.aws_signing.proofs.SigningByLemmas.{holder_stays}

-- no message has a frame yet
pub framed_none : (start : EventsState) (all : List Parts) (at : Instant) → IsChainedSoFar start start all all at []
framed_none start all at = record { refusal = refl; chained = refl }

-- the chain of the messages behind one
behind : (now : EventsState) (message : Parts) (rest : List Parts) (at : Instant)
    → stream_frames (after_link now (frame message) at) rest at
    ≡ chain now.holder.kept.signer rest (replicate (suc (length rest)) at) (link_signature now.holder.kept.signer now.signature (frame message) at)
behind now message rest at =
    ap (λ (signer : Signer). chain signer rest (replicate (suc (length rest)) at) (link_signature now.holder.kept.signer now.signature (frame message) at))
    (holder_stays now.holder at).2

-- the next message has its frame
pub framed_more : (start now new : EventsState) (all rest : List Parts) (message : Parts) (at : Instant) (frames : List (List ℕ)) (framed : List ℕ)
    → IsChainedSoFar start now all (message ∷ rest) at frames → FramesLink (unframed message) now (frame message) at (Ok framed) new
    → IsChainedSoFar start new all rest at (frames ++ framed ∷ [])
framed_more start now new all rest message at frames framed so (fit, is, goes) =
    rw (goes, is) (record {
      refusal = rw fit at so.refusal;
      chained =
          so.chained ∙ ap (λ (others : List (List ℕ)). frames ++ frame link ∷ others) (sym (behind now message rest at))
          ∙ sym (append_assoc frames (frame link ∷ []) (stream_frames (after_link now (frame message) at) rest at));
    })
  where
    link : Parts
    link = next_link now (frame message) at

-- what is answered where there is no frame
answers : (start : EventsState) (all : List Parts) (at : Instant) (error : SigningError) (fault : AwsSigningError)
    → (stream_refusal start all at ≡ Some error) ⊎ (error ≡ NoMemory) → fault ≡ of_signing error → FramesAll start all at (Err fault)
answers start all at error fault (inl refused) is = inl (error, refused, is)
answers start all at error fault (inr want) is = inr (is ∙ ap of_signing want)

-- the next message has none
pub unframed_more : (start now new : EventsState) (all rest : List Parts) (message : Parts) (at : Instant) (frames : List (List ℕ)) (fault : AwsSigningError)
    → IsChainedSoFar start now all (message ∷ rest) at frames → FramesEvent now message at (Err fault) new → FramesAll start all at (Err fault)
unframed_more start now new all rest message at frames fault so (error, (why, goes), is) = answers start all at error fault (by why) is
  where
    by : (frame_refusal (unframed message) now (frame message) at ≡ Some error) ⊎ (error ≡ NoMemory) → (stream_refusal start all at ≡ Some error) ⊎ (error ≡ NoMemory)
    by (inl refused) = inl (rw refused at so.refusal)
    by (inr want) = inr want

-- the end has its frame
pub framed_end : (start now : EventsState) (all : List Parts) (at : Instant) (frames : List (List ℕ)) (framed : List ℕ)
    → IsChainedSoFar start now all [] at frames → ClosesEvents now at (Ok framed)
    → (stream_refusal start all at ≡ None) × (frames ++ framed ∷ [] ≡ stream_frames start all at)
framed_end start now all at frames framed so (fit, is, goes) = (so.refusal ∙ fit, ap (λ (last : List ℕ). frames ++ last ∷ []) is ∙ sym so.chained)

-- the end has none
pub unframed_end : (start now : EventsState) (all : List Parts) (at : Instant) (frames : List (List ℕ)) (fault : AwsSigningError)
    → IsChainedSoFar start now all [] at frames → ClosesEvents now at (Err fault) → FramesAll start all at (Err fault)
unframed_end start now all at frames fault so (error, (why, goes), is) = answers start all at error fault (by why) is
  where
    by : (frame_refusal None now [] at ≡ Some error) ⊎ (error ≡ NoMemory) → (stream_refusal start all at ≡ Some error) ⊎ (error ≡ NoMemory)
    by (inl refused) = inl (so.refusal ∙ refused)
    by (inr want) = inr want

pub ruleset frames = (framed_none, framed_more, unframed_more, framed_end, unframed_end)
