-- The laws of crate `flowsheet`, module by module.
pub mod Fields
pub mod Reading
pub mod Trip
pub mod Answers
pub mod Given
pub mod Example
