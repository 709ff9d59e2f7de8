mod ChunkSignerLemmas
mod InputsLemmas
pub mod MessageSignerLemmas
pub mod SignerLemmas
mod PlainLemmas
