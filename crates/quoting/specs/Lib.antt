-- The definitions of crate `quoting`, module by module.
pub mod Names
