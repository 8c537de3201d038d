pub mod Ends
pub mod Turns
