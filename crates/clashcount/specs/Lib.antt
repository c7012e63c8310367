-- The definitions of crate `clashcount`, module by module.
pub mod Count
