-- The definitions of crate `blocks`, module by module.
pub mod Order
