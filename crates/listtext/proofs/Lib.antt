-- The laws of crate `listtext`, module by module.
pub mod Rows
pub mod Whole
