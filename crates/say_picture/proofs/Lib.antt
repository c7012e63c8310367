-- The laws of crate `say_picture`, module by module.
pub mod Sizes
