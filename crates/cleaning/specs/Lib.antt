-- The definitions of crate `cleaning`, module by module.
pub mod Clean
pub mod Kept
pub mod Fields
pub mod Means
