pub mod Lines
pub mod Driving
