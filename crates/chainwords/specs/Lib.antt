-- The definitions of crate `chainwords`.
pub mod Chain
