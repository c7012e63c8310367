-- The definitions of crate `listhead`, module by module.
pub mod Listing
pub mod Parts
