mod AdapterLemmas
pub mod ChainLemmas
mod DrainLemmas
mod LawLemmas
mod ReceiverLemmas
mod SignedEventLemmas
