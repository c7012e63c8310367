-- The laws of crate `whytext`, module by module.
pub mod Firsts
pub mod Example
