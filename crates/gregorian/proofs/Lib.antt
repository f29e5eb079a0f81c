-- The lemmas: the theorem stands in RoundTrip, and what the code cites mostly in Answered and Notices.
pub mod Checks
pub mod Dates
pub mod Months
pub mod Cycles
pub mod RoundTrip
pub mod Answered
pub mod Notices
