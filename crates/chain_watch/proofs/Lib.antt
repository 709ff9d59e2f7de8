pub mod AcceptedLemmas
pub mod CallLemmas
pub mod FrameLemmas
pub mod NumberLemmas
pub mod SpelledLemmas
pub mod WalkLemmas
pub mod WatchLemmas
pub mod WrittenLemmas
