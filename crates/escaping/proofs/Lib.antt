-- The laws of crate `escaping`, module by module.
pub mod Steps
pub mod Truth
pub mod Pieces
pub mod Whole
pub mod Example
