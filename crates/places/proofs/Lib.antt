-- The laws of crate `places`, module by module.
pub mod Ready
pub mod Long
pub mod Example
pub mod Read
pub mod Marks
pub mod Sheet
pub mod Truth
