-- The definitions of crate `drawing`, module by module.
pub mod Lines
pub mod Places
pub mod Slots
pub mod Read
pub mod Runs
pub mod Range
pub mod Loads
pub mod Picture
