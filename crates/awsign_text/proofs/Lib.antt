pub mod CurlLemmas
