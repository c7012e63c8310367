-- The laws of crate `renumbering`, module by module.
pub mod Fit
pub mod Given
pub mod Renumber
pub mod Rule
pub mod Agree
pub mod Carry
pub mod Turns
pub mod Desk
