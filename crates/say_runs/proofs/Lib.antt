-- The laws of crate `say_runs`, module by module.
pub mod Steps
pub mod Truth
pub mod Example
