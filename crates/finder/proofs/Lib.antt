-- The laws of crate `finder`, module by module.
pub mod Given
pub mod Ways
pub mod Back
pub mod Cells
pub mod Numbered
pub mod BySearch
pub mod Right
pub mod Example
