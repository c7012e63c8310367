-- The definitions of crate `linefaults`, module by module.
pub mod Fault
pub mod Means
