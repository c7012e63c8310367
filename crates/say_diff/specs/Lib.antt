-- The definitions of crate `say_diff`, module by module.
pub mod Lines
pub mod Said
