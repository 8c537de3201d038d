pub mod Beginning
pub mod Turning
