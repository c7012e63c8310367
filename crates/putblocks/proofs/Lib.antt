-- The laws of crate `putblocks`, module by module.
pub mod Names
pub mod Back
pub mod Texts
pub mod Example
