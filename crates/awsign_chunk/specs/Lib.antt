pub mod ChunkRun
pub mod ChunkSaying
pub mod Sending
pub mod Sent
pub mod Sum
