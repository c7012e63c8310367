-- The definitions of crate `say_runs`, module by module.
pub mod Lines
pub mod Runs
pub mod Said
