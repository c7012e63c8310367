-- The definitions of crate `rowapart`, module by module.
pub mod Code
