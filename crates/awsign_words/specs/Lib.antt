pub mod EventWords
pub mod Expiry
pub mod RawPath
pub mod Sources
pub mod Words
