-- The laws of crate `say_slots`, module by module.
pub mod Members
pub mod Ready
pub mod Runs
