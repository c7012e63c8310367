-- The definitions of crate `desktable`, module by module.
pub mod Desk
pub mod Pictures
