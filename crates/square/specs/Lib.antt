-- The definitions of crate `square`, module by module.
pub mod Turned
pub mod Stage
pub mod Fours
