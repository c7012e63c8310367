-- The definitions of crate `auditing`, module by module.
pub mod Form
pub mod Row
pub mod Takes
