pub mod Sides
pub mod Wanted
pub mod Built
pub mod Steps
