-- The definitions of crate `handheld`, module by module.
pub mod Change
pub mod Given
