-- The definitions of crate `told`, module by module.
pub mod Told
