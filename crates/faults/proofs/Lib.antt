-- The laws of crate `faults`, module by module.
pub mod InTurn
pub mod First
pub mod Once
pub mod Example
