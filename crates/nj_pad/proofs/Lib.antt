pub mod PadLemmas
pub mod PortLemmas
