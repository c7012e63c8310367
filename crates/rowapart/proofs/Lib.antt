-- The laws of crate `rowapart`, module by module.
pub mod Bytes
pub mod Passes
pub mod Apart
pub mod Runs
pub mod Alike
pub mod Mask
