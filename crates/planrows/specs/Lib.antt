-- The definitions of crate `planrows`, module by module.
pub mod Row
