-- The laws of crate `cleaning`, module by module.
pub mod Kept
pub mod Fields
pub mod Ends
pub mod Example
