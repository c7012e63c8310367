-- The laws of crate `finding`, module by module.
pub mod Over
pub mod Alike
pub mod Right
pub mod Never
