-- The definitions of crate `say_changes`, module by module.
pub mod Lines
pub mod Said
