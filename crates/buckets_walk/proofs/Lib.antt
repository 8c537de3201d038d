pub mod Lists
pub mod Walking
