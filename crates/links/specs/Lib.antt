pub mod Chain
pub mod Ring
pub mod Linked
