-- The definitions of crate `say_rule`, module by module.
pub mod Lines
pub mod Said
pub mod Means
