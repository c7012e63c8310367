-- The laws of crate `blocks`, module by module.
pub mod Columns
pub mod Places
