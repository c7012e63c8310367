-- The definitions of crate `say_answers`, module by module.
pub mod Lines
pub mod Said
