-- The definitions of crate `renumbering`, module by module.
pub mod Numbering
pub mod Renumbers
pub mod Carry
