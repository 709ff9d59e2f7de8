mod DoorLemmas
mod FrameLemmas
mod LinkLemmas
mod ProgramLemmas
mod SignLemmas
mod WatchLemmas
