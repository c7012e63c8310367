-- The laws of crate `finds`, module by module.
pub mod Said
pub mod Loads
pub mod Example
pub mod Truth
