-- The definitions of crate `clashblocks`, module by module.
pub mod Above
