pub mod Words
pub mod Rows
pub mod Steps
pub mod One
pub mod Places
pub mod Checks
