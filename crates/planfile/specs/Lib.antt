-- The definitions of crate `planfile`, module by module.
pub mod Read
pub mod Loop
pub mod Write
pub mod Given
