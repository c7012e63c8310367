-- The laws of crate `say_clashes`, module by module.
pub mod Said
pub mod Truth
pub mod Counted
pub mod Example
