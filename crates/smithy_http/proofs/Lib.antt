pub mod EscapeLemmas
pub mod SlashLemmas
pub mod QueryLemmas
pub mod FitLemmas
pub mod TargetLemmas
