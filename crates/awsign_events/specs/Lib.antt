pub mod Decode
pub mod Encode
pub mod EventText
pub mod EventsSaying
pub mod EventsStatus
pub mod HexInput
pub mod VerifyEvents
