-- The definitions of crate `judges`, module by module.
pub mod Judges
pub mod Given
