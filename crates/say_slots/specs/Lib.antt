-- The definitions of crate `say_slots`, module by module.
pub mod Code
