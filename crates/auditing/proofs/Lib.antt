-- The laws of crate `auditing`, module by module.
pub mod Truth
pub mod Rows
