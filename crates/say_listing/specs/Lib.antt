-- The definitions of crate `say_listing`, module by module.
pub mod Lines
