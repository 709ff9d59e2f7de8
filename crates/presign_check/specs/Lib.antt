pub mod Acceptance
pub mod Faults
pub mod OneAnswer
pub mod Parameters
pub mod Presigned
pub mod Terms
