pub mod Classes
pub mod Schedules
