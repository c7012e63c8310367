-- The definitions of crate `say_clashes`, module by module.
pub mod Lines
pub mod Said
pub mod Means
