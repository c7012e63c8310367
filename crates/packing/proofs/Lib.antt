-- The laws of crate `packing`.
pub mod Packed
