-- The definitions of crate `resize`, module by module.
pub mod Sizes
pub mod Others
