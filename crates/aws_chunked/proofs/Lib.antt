mod AnnouncementLemmas
mod BodyLemmas
pub mod CutLemmas
mod DigitLemmas
pub mod DueLemmas
mod FillLemmas
mod FollowLemmas
mod LawLemmas
mod LengthLemmas
mod LengthTextLemmas
mod LineLemmas
mod MadeLemmas
mod NewLemmas
mod PassLemmas
mod PassedLengthLemmas
mod PieceLemmas
mod PiecesDueLemmas
mod PlaceLemmas
mod PullLemmas
mod ReadLemmas
mod RunLemmas
pub mod SealedLawLemmas
mod SignLemmas
pub mod SignatureLemmas
pub mod SoundBodyLemmas
mod SoundLemmas
mod StepLemmas
mod StopLemmas
mod TailLemmas
mod TailReadLemmas
mod TrailerLemmas
mod TurnLemmas
