mod Places
mod Bests
mod Gaps
mod Gathered
