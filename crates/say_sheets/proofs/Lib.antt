-- The laws of crate `say_sheets`, module by module.
pub mod Said
pub mod Example
