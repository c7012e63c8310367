-- The definitions of crate `infiles`, module by module.
pub mod Pair
