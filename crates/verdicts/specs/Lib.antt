-- The definitions of crate `verdicts`, module by module.
pub mod Lines
pub mod Said
pub mod Means
