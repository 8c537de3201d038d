pub mod Tables
pub mod Slices
pub mod Lent
pub mod Steps
