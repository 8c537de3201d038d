pub mod Free
pub mod Steps
pub mod Check
pub mod Uses
