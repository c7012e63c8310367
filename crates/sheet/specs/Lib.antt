-- The definitions of crate `sheet`, module by module.
pub mod Sheet
pub mod Read
pub mod Write
pub mod Means
pub mod Given
