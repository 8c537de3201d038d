pub mod Promise
pub mod Making
