-- The definitions of crate `faults`, module by module.
pub mod Faults
pub mod Means
