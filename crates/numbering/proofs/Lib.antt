-- The laws of crate `numbering`, module by module.
pub mod Found
pub mod Ways
pub mod Given
pub mod Moved
pub mod Meaning
