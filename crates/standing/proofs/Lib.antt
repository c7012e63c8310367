-- The laws of crate `standing`, module by module.
pub mod Free
pub mod Keeping
pub mod Within
pub mod Words
pub mod Standing
pub mod Turns
