-- The laws of crate `shares`, module by module.
pub mod Desk
pub mod Laws
pub mod Means
pub mod Repeating
pub mod Given
