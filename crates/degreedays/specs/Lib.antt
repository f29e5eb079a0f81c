-- What degree days are, and what it is to sum their differences.
pub mod DegreeDays
pub mod Sums
pub mod Zones
