-- The laws of crate `clashcount`, module by module.
pub mod Pairs
pub mod Example
