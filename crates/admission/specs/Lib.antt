-- The definitions of crate `admission`, module by module.
pub mod Admit
pub mod Beside
pub mod Code
pub mod Given
pub mod Laden
pub mod Means
