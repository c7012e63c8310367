-- The definitions of crate `say_audit`, module by module.
pub mod Lines
pub mod Said
