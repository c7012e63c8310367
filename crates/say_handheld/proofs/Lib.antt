-- The laws of crate `say_handheld`, module by module.
pub mod Example
