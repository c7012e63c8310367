-- The laws of crate `positions`, module by module.
pub mod Counts
pub mod Sets
pub mod Room
pub mod Joins
