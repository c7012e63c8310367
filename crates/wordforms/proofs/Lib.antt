-- The laws of crate `wordforms`, module by module.
pub mod Rows
pub mod Eights
