-- The laws of crate `readback`, module by module.
pub mod Back
