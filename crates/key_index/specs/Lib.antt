pub mod Class
pub mod Index
pub mod Cleared
pub mod Places
pub mod Check
