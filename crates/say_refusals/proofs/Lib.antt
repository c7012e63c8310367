-- The laws of crate `say_refusals`, module by module.
pub mod Sentences
pub mod Example
