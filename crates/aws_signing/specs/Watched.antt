-- What checking a stream of events promises, in the words of `chain_watch/specs/Watch.antt`.
use Rattle.std.specs.Prelude.{◌≡◌, ◌⊎◌, ◌+◌, ◌≤◌, ◌^◌, ℕ, List, [], ◌++◌, length, Result, Ok, Err}
use Rattle.std.specs.Global.{Vec}
use Rattle.smithy_core.specs.Message.{Parts}
use Rattle.eventstream.specs.Key.{Signer}
use Rattle.chain_watch.specs.Walk.{chain_events}
use Rattle.chain_watch.specs.Watch.{DoesNothing, EndsWatch, Feeds, FeedsPiece, Watching, new_watch}
use Rattle.chain_watch.specs.declared.chain_fault.ChainFault.{ChainFault}
use Rattle.chain_watch.specs.declared.watch.Watched.{Watched}
use Rattle.aws_signing.specs.SigningFaults.{of_chain}
use Rattle.aws_signing.specs.declared.fault.AwsSigningError.{AwsSigningError}
use Rattle.aws_signing.specs.declared.fault.AwsSigningError.TheVariants.{NoMemory, StreamTooLong}

-- what a call of `feed` does; or the stream would be too long, and nothing changes
abbrev pub FeedsWatched : Watching → List ℕ → List Parts → Watching → List Parts → Result Watched AwsSigningError → Type 0
FeedsWatched old piece events new gained (Ok watched) = Feeds old piece events new gained (Ok watched)
FeedsWatched old piece events new gained (Err told) =
    ((fault : ChainFault) × Feeds old piece events new gained (Err fault) × (told ≡ of_chain fault))
    ⊎ ((2 ^ 64 ≤ old.fed + length piece) × DoesNothing old events new gained × (told ≡ StreamTooLong))

-- what a call of `finish` does
abbrev pub EndsWatched : Watching → List Parts → List Parts → Result (Unit {0}) AwsSigningError → Type 0
EndsWatched watch events gained (Ok done) = EndsWatch watch events gained (Ok done)
EndsWatched watch events gained (Err told) = (fault : ChainFault) × EndsWatch watch events gained (Err fault) × (told ≡ of_chain fault)

-- these are the events of the chain that the bytes are under a seed; or the first test that they fail, or they are too many, or memory ran out
abbrev pub ChecksEvents : Signer → List ℕ → List ℕ → Result (Vec Parts) AwsSigningError → Type 0
ChecksEvents signer seed bytes (Ok events) = chain_events signer seed bytes ≡ Ok events.items
ChecksEvents signer seed bytes (Err told) =
    ((fault : ChainFault) × (chain_events signer seed bytes ≡ Err fault) × (told ≡ of_chain fault))
    ⊎ ((2 ^ 64 ≤ length bytes) × (told ≡ StreamTooLong)) ⊎ (told ≡ NoMemory)

-- ## On the way

-- of all bytes the first were taken, as if they were one piece, and the rest comes
pub record IsFedSoFar (signer : Signer) (seed all rest : List ℕ) (watch : Watching) (events : List Parts) : Type 0 where
  pub taken : List ℕ
  pub split : all ≡ taken ++ rest
  pub watched : Watched
  pub feeds : FeedsPiece (new_watch signer seed) taken [] watch events (Ok watched)
