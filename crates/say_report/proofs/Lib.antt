-- The laws of crate `say_report`, module by module.
pub mod Example
