-- The definitions of crate `blocklist`, module by module.
pub mod Format
pub mod Read
