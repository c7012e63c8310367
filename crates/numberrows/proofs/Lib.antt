-- The laws of crate `numberrows`, module by module.
pub mod Words
pub mod Moved
pub mod Rows
