-- The definitions of crate `oneway`, module by module.
pub mod TwoWay
