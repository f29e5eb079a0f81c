-- Lemmas for requests and their answers.
mod Days
mod Digits
