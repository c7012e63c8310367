-- The laws of crate `say_faults`, module by module.
pub mod Ready
pub mod Said
pub mod Truth
