pub mod Temperatures
pub mod Refusals
