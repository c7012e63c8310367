-- The laws of crate `stretches`, module by module.
pub mod Turns
pub mod Runs
pub mod Spends
pub mod Laid
pub mod Open
pub mod Ends
