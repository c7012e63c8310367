-- The laws of crate `tidying`, module by module.
pub mod Copied
pub mod Read
pub mod Laws
pub mod Given
pub mod Untold
pub mod AsItWas
pub mod Example
