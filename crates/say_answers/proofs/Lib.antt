-- The laws of crate `say_answers`, module by module.
pub mod Example
