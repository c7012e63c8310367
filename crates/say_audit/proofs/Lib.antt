-- The laws of crate `say_audit`, module by module.
pub mod Over
pub mod Example
