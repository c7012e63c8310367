-- The laws of crate `sitefile`, module by module.
pub mod Reasons
pub mod ReadLaws
pub mod WriteLaws
pub mod FileTrip
pub mod Good
pub mod Trip
pub mod Before
pub mod PassedOn
pub mod Zeros
