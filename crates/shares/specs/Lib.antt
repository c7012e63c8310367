-- The definitions of crate `shares`, module by module.
pub mod Share
pub mod Means
pub mod Given
