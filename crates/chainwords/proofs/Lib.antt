-- The laws of crate `chainwords`.
pub mod Laws
pub mod Rows
