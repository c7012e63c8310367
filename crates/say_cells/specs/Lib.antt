-- The definitions of crate `say_cells`, module by module.
pub mod Lines
pub mod Cells
