-- The definitions of crate `say_refusals`, module by module.
pub mod Lines
pub mod Said
pub mod Sentences
