pub mod Chosen
pub mod Faults
pub mod Guess
pub mod Progress
pub mod Run
pub mod Saying
pub mod Signing
pub mod Status
