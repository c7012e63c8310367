-- The laws of crate `desktable`, module by module.
pub mod Faults
pub mod Desk
pub mod Reader
pub mod Pictures
