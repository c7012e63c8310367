-- The definitions of crate `positions`, module by module.
pub mod Blocked
