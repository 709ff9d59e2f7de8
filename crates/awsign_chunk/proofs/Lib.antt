pub mod AnnouncedLemmas
pub mod ChunkRunLemmas
pub mod SendingLemmas
pub mod SentLemmas
pub mod SumLemmas
