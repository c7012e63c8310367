-- The definitions of crate `demands`, module by module.
pub mod Words
