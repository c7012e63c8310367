-- The laws of crate `checker`, module by module.
pub mod Marks
pub mod Lowest
pub mod Barred
pub mod Judged
pub mod Given
pub mod Meaning
