pub mod PresignRun
pub mod PresignSaying
pub mod PresignStatus
