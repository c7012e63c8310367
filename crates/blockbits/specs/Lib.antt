-- The definitions of crate `blockbits`, module by module.
pub mod Blocks
pub mod Reasons
pub mod Loop
