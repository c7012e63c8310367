-- The laws of crate `speech`, module by module.
pub mod Steps
pub mod Long
pub mod Example
