-- The laws of crate `sheet`, module by module.
pub mod Fill
pub mod Trip
pub mod Reading
pub mod WriteLaws
pub mod Answers
pub mod PassedOn
pub mod Given
pub mod Example
