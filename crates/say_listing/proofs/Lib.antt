-- The laws of crate `say_listing`, module by module.
pub mod Steps
pub mod Example
