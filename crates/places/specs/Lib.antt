-- The definitions of crate `places`, module by module.
pub mod Lines
pub mod Places
pub mod Read
