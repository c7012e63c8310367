-- The definitions of crate `say_loads`, module by module.
pub mod Code
