-- The definitions of crate `finder`, module by module.
pub mod Find
pub mod Given
