-- The definitions of crate `say_search`, module by module.
pub mod Lines
pub mod Said
pub mod Means
