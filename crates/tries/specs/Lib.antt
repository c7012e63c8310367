-- The definitions of crate `tries`, module by module.
pub mod Search
pub mod Looks
