-- The laws of crate `senders`, module by module.
pub mod Example
pub mod Heard
pub mod Lines
pub mod Truth
