-- The definitions of crate `readback`, module by module.
pub mod Back
