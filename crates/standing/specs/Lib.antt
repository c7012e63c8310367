-- The definitions of crate `standing`, module by module.
pub mod Sets
pub mod Stand
pub mod Turns
