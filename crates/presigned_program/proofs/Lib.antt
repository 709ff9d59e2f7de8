pub mod PresignLemmas
