-- The definitions of crate `toldfiles`, module by module.
pub mod Files
