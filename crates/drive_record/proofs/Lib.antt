pub mod Acting
pub mod Stepping
