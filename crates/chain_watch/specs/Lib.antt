pub mod Calls
pub mod Chain
pub mod ChainFault
pub mod Frame
pub mod Position
pub mod Walk
pub mod Watch
