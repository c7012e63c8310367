-- The laws of crate `blockwords`, module by module.
pub mod Trades
pub mod Places
