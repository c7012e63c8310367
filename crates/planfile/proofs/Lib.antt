-- The laws of crate `planfile`, module by module.
pub mod ReadLaws
pub mod WriteLaws
pub mod Order
pub mod Given
pub mod PassedOn
pub mod Trip
