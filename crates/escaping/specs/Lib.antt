-- The definitions of crate `escaping`, module by module.
pub mod Letters
pub mod Escaped
pub mod Pieces
