pub mod Periods
pub mod Made
