pub mod Attempting
pub mod Carriers
pub mod Outcome
pub mod Running
pub mod Status
pub mod Words
