-- The definitions of crate `packing`.
pub mod Packed
