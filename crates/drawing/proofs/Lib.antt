-- The laws of crate `drawing`, module by module.
pub mod Places
pub mod Covers
pub mod Gives
pub mod Marks
pub mod Reach
pub mod Loads
pub mod Picture
