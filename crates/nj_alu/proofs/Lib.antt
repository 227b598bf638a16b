pub mod Overflow
pub mod RoundTrip
pub mod Borrow
