-- The definitions of crate `say_faults`, module by module.
pub mod Lines
pub mod Said
pub mod Means
