-- The laws of crate `mending`, module by module.
pub mod Stand
pub mod Overlay
pub mod Changes
pub mod Follow
pub mod Mended
pub mod Desk
