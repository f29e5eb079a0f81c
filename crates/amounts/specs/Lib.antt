pub mod Figures
pub mod Checked
pub mod Steps
pub mod Weather
pub mod Fair
