pub mod Units
pub mod Trace
pub mod Watch
pub use Rattle.nj_machine.specs.Frame
pub use Rattle.nj_machine.specs.Seen
