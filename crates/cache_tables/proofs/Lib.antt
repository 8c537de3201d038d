pub mod Cached
pub mod Replacing
pub mod Caching
pub mod Inserting
pub mod Asking
pub mod Public
pub mod Agreeing
