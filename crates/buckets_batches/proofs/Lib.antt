pub mod Batching
