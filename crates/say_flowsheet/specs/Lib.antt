-- The definitions of crate `say_flowsheet`, module by module.
pub mod Said
