-- The definitions of crate `rows`, module by module.
pub mod Bars
pub mod Stretch
