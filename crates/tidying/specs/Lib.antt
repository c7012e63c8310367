-- The definitions of crate `tidying`, module by module.
pub mod Tidy
pub mod Given
