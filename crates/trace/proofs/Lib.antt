pub mod Writing
pub mod Running
pub mod Beginning
