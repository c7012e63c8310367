-- The laws of crate `blockbits`, module by module.
pub mod Blocks
pub mod ReadLaws
pub mod Reasons
pub mod Example
