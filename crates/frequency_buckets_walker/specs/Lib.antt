pub mod Stands
pub mod Walks
