-- The laws of crate `planbits`, module by module.
pub mod Bits
pub mod Block
pub mod Halves
