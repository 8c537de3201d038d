pub mod Records
pub mod Feeding
pub mod Parts
pub mod Sizes
pub mod Wholes
pub mod Agreeing
