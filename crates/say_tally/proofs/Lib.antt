-- The laws of crate `say_tally`, module by module.
pub mod Example
