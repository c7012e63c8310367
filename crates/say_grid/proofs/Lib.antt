-- The laws of crate `say_grid`, module by module.
pub mod Steps
pub mod Truth
pub mod Example
