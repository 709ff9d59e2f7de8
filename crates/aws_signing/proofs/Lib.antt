pub mod EventFramesLemmas
pub mod PresigningLemmas
pub mod ReceivedLemmas
pub mod SigningByLemmas
pub mod SpelledLemmas
pub mod UploadLemmas
pub mod WatchedLemmas
