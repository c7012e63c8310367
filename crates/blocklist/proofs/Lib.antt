-- The laws of crate `blocklist`, module by module.
pub mod Steps
pub mod Sides
pub mod Trip
pub mod Example
pub mod Accepted
