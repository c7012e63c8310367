-- The definitions of crate `say_grid`, module by module.
pub mod Lines
pub mod Grid
