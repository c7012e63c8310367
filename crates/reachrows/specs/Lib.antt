-- The definitions of crate `reachrows`, module by module.
pub mod Rows
