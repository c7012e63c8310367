-- The definitions of crate `finding`, module by module.
pub mod Found
pub mod Means
