-- The laws of crate `reachrows`, module by module.
pub mod Pass
pub mod Rule
pub mod Rules
