pub mod AwsSettings
pub mod Choice
pub mod Faults
