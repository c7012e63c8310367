-- The definitions of crate `text`, module by module.
pub mod Decimal
