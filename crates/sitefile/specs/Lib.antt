-- The definitions of crate `sitefile`, module by module.
pub mod Reasons
pub mod Read
pub mod Loop
pub mod Write
pub mod Before
