-- The laws of crate `planrows`, module by module.
pub mod Marked
pub mod Sent
pub mod Over
