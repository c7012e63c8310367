-- The laws of crate `square`, module by module.
pub mod Square
pub mod Stages
pub mod Fours
