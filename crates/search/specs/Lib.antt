-- The definitions of crate `search`, module by module.
pub mod Search
pub mod Hunt
pub mod Loop
pub mod Given
