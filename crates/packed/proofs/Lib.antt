mod Groups
pub mod Forms
pub mod Signs
