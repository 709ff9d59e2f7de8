pub mod Curl
pub mod Forms
pub mod Head
