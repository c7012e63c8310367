-- The laws of crate `setwords`, module by module.
pub mod Words
pub mod Firsts
