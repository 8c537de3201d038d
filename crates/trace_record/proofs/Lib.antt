pub mod Telling
pub mod Agreeing
