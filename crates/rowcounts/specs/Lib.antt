-- The definitions of crate `rowcounts`, module by module.
pub mod Counts
