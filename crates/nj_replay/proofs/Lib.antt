pub mod Leaving
pub mod Holding
pub mod Broken
pub mod WordLemmas
pub mod Standing
