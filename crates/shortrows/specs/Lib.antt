-- The definitions of crate `shortrows`, module by module.
pub mod Short
