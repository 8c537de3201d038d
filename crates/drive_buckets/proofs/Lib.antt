pub mod Driving
pub mod Keys
