-- The laws of crate `admitting`, module by module.
pub mod Sets
pub mod Best
pub mod Alike
pub mod Desk
