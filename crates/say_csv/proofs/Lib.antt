-- The laws of crate `say_csv`, module by module.
pub mod Cells
pub mod Example
