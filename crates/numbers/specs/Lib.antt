pub mod Marks
pub mod Frequency
pub mod Answer
