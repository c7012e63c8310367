-- The laws of crate `flowlist`.
pub mod Laws
