-- The laws of crate `say_why`, module by module.
pub mod Texts
