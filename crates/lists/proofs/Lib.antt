pub mod Tests
pub mod Members
pub mod Stores
pub mod Maps
pub mod Totals
pub mod Pigeonhole
