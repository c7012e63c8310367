-- The definitions of crate `wordforms`, module by module.
pub mod Words
pub mod Eights
