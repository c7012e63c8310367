-- The laws of crate `quoting`, module by module.
pub mod Names
pub mod Example
