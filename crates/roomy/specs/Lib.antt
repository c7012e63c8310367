-- The definitions of crate `roomy`, module by module.
pub mod Room
