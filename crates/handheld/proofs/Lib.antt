-- The laws of crate `handheld`, module by module.
pub mod Loads
pub mod Ways
pub mod Given
pub mod Meaning
