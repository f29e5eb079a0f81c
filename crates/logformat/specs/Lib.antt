pub mod Zones
pub mod Writing
pub mod Reading
pub mod Faults
pub mod Accepted
