-- The definitions of crate `say_handheld`, module by module.
pub mod Lines
pub mod Said
