-- The definitions of crate `loads`, module by module.
pub mod Loads
