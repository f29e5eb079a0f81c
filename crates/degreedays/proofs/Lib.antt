-- Lemmas on degree days and on sums over days.
pub mod Days
pub mod Degrees
pub mod One
