-- How a request is written, and what is answered.
pub mod Requests
pub mod Counts
pub mod Views
