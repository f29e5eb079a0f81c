pub mod Differences
pub mod Readers
