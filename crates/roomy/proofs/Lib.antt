-- The laws of crate `roomy`, module by module.
pub mod Raised
pub mod Right
pub mod Example
