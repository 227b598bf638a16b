pub mod Text
pub mod Says
pub use Rattle.nj_pad.specs.Pad
pub use Rattle.nj_lines.specs.Lines
