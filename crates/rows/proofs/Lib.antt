-- The laws of crate `rows`, module by module.
pub mod Fill
pub mod Forbid
pub mod Bars
pub mod TakeOver
pub mod Pieces
