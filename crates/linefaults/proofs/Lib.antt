-- The laws of crate `linefaults`, module by module.
pub mod Lines
pub mod Sound
pub mod Good
pub mod Example
