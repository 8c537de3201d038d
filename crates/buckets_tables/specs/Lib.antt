pub mod Tables
pub mod Slices
pub mod Holds
pub mod LedgerOf
pub mod Calls
pub mod Lent
