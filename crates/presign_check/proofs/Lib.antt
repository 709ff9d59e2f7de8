pub mod AcceptanceLemmas
pub mod OneAnswerLemmas
pub mod OrderLemmas
pub mod ParameterLemmas
pub mod PresignedCaseLemmas
pub mod SignatureLemmas
pub mod TermLemmas
