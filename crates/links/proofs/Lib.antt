pub mod Chains
pub mod Functions
pub mod Rings
pub mod Walks
pub mod Lists
pub mod Counts
