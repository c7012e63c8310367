-- The definitions of crate `finds`, module by module.
pub mod Lines
pub mod Last
pub mod Find
pub mod Means
