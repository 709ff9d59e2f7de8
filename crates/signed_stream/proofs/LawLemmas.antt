-- A stream that was written raw is read back, and accepted.
use Rattle.std.proofs.Common.{◌≡◌, ℕ, List, [], ◌∷◌, ◌++◌, All, Ok, map, refl, ap}
use Rattle.std.specs.List.{concat, flat_map}
use Rattle.smithy_core.specs.Message.{Parts}
use Rattle.smithy_core.specs.Moment.{Instant}
use Rattle.eventstream.specs.Frame.{frame}
use Rattle.eventstream.specs.Key.{Signer}
use Rattle.eventstream.specs.Laws.{IsProper, floored_message}
use Rattle.eventstream.specs.Link.{chain, link_signature}
use Rattle.event_io.specs.Laws.{IsChained, ReadsChain}
use Rattle.chain_watch.specs.Chain.{IsWholeChain}
use Rattle.chain_watch.specs.Walk.{chain_events}
use Rattle.env_config.specs.Sections.{FileText}
use Rattle.sigv4.specs.Signed.{signature_of}
use Rattle.signed_stream.specs.Chain.{chain_text, frame_text}
use Rattle.signed_stream.specs.Command.{Wanted}
use Rattle.job_text.specs.Job.{JobParts}
use Rattle.signed_stream.specs.Laws.{AcceptsEvents, ReadsEvents}
use Rattle.signed_stream.specs.Plan.{TargetRead}
use Rattle.signed_stream.specs.Stream.{IsValid, valid_case, written_valid}
use Rattle.signed_stream.specs.Written.{written_stream}
use Rattle.signed_stream.specs.declared.form.Form.TheVariants.{Raw}

raw_frames : (frames : List (List ℕ)) → flat_map (frame_text Raw) frames ≡ concat frames
unfolding frame_text
raw_frames [] = refl
raw_frames (frame ∷ frames) = ap (λ (others : List ℕ). frame ++ others) (raw_frames frames)

raw_chain : (signer : Signer) (events : List Parts) (moments : List Instant) (seed : List ℕ)
    → chain_text Raw signer events moments seed ≡ concat (chain signer events moments seed)
unfolding chain_text
raw_chain signer events moments seed = raw_frames (chain signer events moments seed)

-- a chain is one of frames, whatever its moments
is_framed : (signer : Signer) (events : List Parts) (moments : List Instant) (seed : List ℕ) → IsWholeChain signer events moments seed → IsChained signer events moments seed
is_framed signer [] [] seed chained = absurd chained
is_framed signer [] (t ∷ []) seed chained = chained.1
is_framed signer [] (t ∷ u ∷ moments) seed chained = absurd chained
is_framed signer (event ∷ events) [] seed chained = absurd chained
is_framed signer (event ∷ events) (t ∷ moments) seed chained =
    (chained.0, chained.2, is_framed signer events moments (link_signature signer seed (frame event) t) chained.3)

module _ {files : List FileText} {profile : List ℕ} {env : List (List ℕ × List ℕ)} {wanted : Wanted} {j : JobParts} {target : TargetRead} {moments : List Instant}
    (input : IsValid files profile env wanted j target moments) where
  written_raw : wanted.form ≡ Raw → written_valid input ≡ concat (chain (valid_case input).signer j.events input.others (signature_of (valid_case input)))
  unfolding written_stream
  written_raw raw = rw raw (raw_chain (valid_case input).signer j.events input.others (signature_of (valid_case input)))

  pub raw_read : ((signer : Signer) (events : List Parts) (moments : List Instant) (signature : List ℕ) → All IsProper events
      → IsChained signer events moments signature → ReadsChain signer events moments signature)
      → wanted.form ≡ Raw → All IsProper j.events
      → ReadsEvents (chain (valid_case input).signer j.events input.others (signature_of (valid_case input))) j.events (written_valid input)
  raw_read chains_read_back raw proper =
      let chained = is_framed (valid_case input).signer j.events input.others (signature_of (valid_case input)) input.chained in
      let read = chains_read_back (valid_case input).signer j.events input.others (signature_of (valid_case input)) proper chained in
      record { messages = read.messages; framed = read.frames; carried = read.carried; joined = rw (written_raw raw) read.joined }

  pub raw_accepted : ((signer : Signer) (events : List Parts) (moments : List Instant) (seed : List ℕ) → All IsProper events → IsWholeChain signer events moments seed
      → chain_events signer seed (concat (chain signer events moments seed)) ≡ Ok (map floored_message events))
      → wanted.form ≡ Raw → All IsProper j.events
      → AcceptsEvents (valid_case input).signer (signature_of (valid_case input)) j.events (written_valid input)
  raw_accepted chains_are_accepted raw proper = rw (written_raw raw)
      (chains_are_accepted (valid_case input).signer j.events input.others (signature_of (valid_case input)) proper input.chained)
