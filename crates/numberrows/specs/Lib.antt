-- The definitions of crate `numberrows`, module by module.
pub mod Words
pub mod Numbers
