pub mod Items
pub mod Walking
