-- The laws of crate `inputs`, module by module.
pub mod Eaten
pub mod Cases
pub mod Example
