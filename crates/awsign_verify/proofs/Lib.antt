pub mod MessageLemmas
pub mod TimeLemmas
pub mod VerifyLemmas
pub mod VerifyRunLemmas
