-- The laws of crate `say_diff`, module by module.
pub mod Said
