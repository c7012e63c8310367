-- The laws of crate `calltext`, module by module.
pub mod Kept
