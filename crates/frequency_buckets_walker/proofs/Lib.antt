pub mod Agreeing
pub mod Answers
pub mod Places
pub mod Shown
