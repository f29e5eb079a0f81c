pub mod Steps
mod Forward
mod Backward
mod Following
mod Stopped
mod Alone
pub mod Opening
pub mod Ranges
