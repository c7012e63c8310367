-- The laws of crate `clashblocks`, module by module.
pub mod Above
pub mod Joined
