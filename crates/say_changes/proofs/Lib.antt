-- The laws of crate `say_changes`, module by module.
pub mod Said
pub mod Example
