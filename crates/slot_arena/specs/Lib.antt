pub mod Arena
pub mod Fill
pub mod Check
