-- The definitions of crate `numbering`, module by module.
pub mod Renumber
pub mod Carried
pub mod Given
