-- The laws of crate `sitehead`, module by module.
pub mod Head
pub mod Reasons
