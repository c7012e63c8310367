-- The laws of crate `shortrows`, module by module.
pub mod Bytes
pub mod Fill
pub mod Row
