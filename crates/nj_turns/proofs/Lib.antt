pub mod Past
pub mod Alike
pub mod Turning
pub mod Found
