-- The laws of crate `text`, module by module.
pub mod Writing
pub mod Digits
pub mod Left
