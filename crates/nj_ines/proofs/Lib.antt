pub mod CartLemmas
