-- The laws of crate `say_flowsheet`, module by module.
pub mod Example
