pub mod Handed
pub mod Real
pub mod Rise
pub mod Told
