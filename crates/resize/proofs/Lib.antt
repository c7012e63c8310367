-- The laws of crate `resize`, module by module.
pub mod Pairs
pub mod Laws
pub mod Answers
