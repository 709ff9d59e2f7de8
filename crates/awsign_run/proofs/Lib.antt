pub mod ChosenLemmas
pub mod CountLemmas
pub mod DigestLemmas
pub mod FileLemmas
pub mod JoinLemmas
pub mod PrintLemmas
pub mod RunLemmas
pub mod SigningLemmas
