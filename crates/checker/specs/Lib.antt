-- The definitions of crate `checker`, module by module.
pub mod Marks
pub mod Check
pub mod Given
