-- The definitions of crate `blockwords`, module by module.
pub mod Trade
pub mod Plain
