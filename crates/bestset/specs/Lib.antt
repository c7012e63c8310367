-- The definitions of crate `bestset`, module by module.
pub mod Code
