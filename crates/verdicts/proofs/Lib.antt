-- The laws of crate `verdicts`, module by module.
pub mod Clash
pub mod Example
pub mod Share
