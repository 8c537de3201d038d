pub mod Operations
pub mod Steps
