mod FailedLemmas
pub mod EncodeLemmas
pub mod JsonLemmas
pub mod ShowLemmas
pub mod VerifyLemmas
