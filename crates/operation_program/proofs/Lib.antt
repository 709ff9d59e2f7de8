pub mod AttemptingLemmas
pub mod GoesLemmas
pub mod PartsLemmas
