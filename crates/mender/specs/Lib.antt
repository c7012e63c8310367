-- The definitions of crate `mender`, module by module.
pub mod Mend
pub mod Given
