-- The definitions of crate `mending`, module by module.
pub mod Mend
pub mod Keep
pub mod Changes
