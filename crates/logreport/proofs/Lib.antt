-- Lemmas for the report.
mod Places
