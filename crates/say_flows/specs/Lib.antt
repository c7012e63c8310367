-- The definitions of crate `say_flows`, module by module.
pub mod Lines
pub mod Said
