-- The definitions of crate `say_csv`, module by module.
pub mod Lines
pub mod Fields
