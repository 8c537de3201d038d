pub mod Words
pub mod Lines
pub mod Written
pub mod Output
pub mod Ends
