-- The definitions of crate `say_sheets`, module by module.
pub mod Lines
pub mod Said
