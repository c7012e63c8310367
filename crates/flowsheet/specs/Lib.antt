-- The definitions of crate `flowsheet`, module by module.
pub mod Format
pub mod Read
pub mod Given
pub mod Means
