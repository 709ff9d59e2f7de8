pub mod ChoiceLemmas
pub mod ProfileLemmas
