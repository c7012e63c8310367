-- The definitions of crate `sitehead`, module by module.
pub mod Head
