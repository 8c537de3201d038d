pub mod Change
pub mod Regroup
pub mod Falls
pub mod Calls
