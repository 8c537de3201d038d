pub mod Batching
pub mod Uneven
pub mod Touching
pub mod Agreeing
