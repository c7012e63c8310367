-- The laws of crate `mender`, module by module.
pub mod Ends
pub mod Given
pub mod Lent
pub mod Meaning
pub mod Room
pub mod Written
