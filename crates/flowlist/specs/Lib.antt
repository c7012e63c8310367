-- The definitions of crate `flowlist`.
pub mod List
