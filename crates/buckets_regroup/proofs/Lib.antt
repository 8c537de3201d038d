pub mod Changes
pub mod Settled
pub mod Tops
pub mod Falling
pub mod Turns
pub mod Remaining
pub mod Regrouping
