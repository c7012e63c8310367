-- The definitions of crate `say_edits`, module by module.
pub mod Lines
pub mod Said
