-- The laws of crate `say_loads`, module by module.
pub mod Ready
