-- The laws of crate `say_rule`, module by module.
pub mod Said
pub mod Truth
pub mod Example
