-- How a report is written.
pub mod Words
pub mod Report
