pub mod Message
pub mod Verify
pub mod VerifyRun
pub mod VerifySaying
