-- The laws of crate `rowcounts`, module by module.
pub mod Rows
