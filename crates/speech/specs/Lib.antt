-- The definitions of crate `speech`, module by module.
pub mod Speech
