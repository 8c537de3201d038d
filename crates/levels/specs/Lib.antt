pub mod Levels
pub mod Held
pub mod Slices
pub mod Calls
pub mod Check
