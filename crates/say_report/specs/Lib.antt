-- The definitions of crate `say_report`, module by module.
pub mod Lines
pub mod Page
