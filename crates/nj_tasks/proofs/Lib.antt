pub mod Readers
pub mod Serving
pub mod Statuses
