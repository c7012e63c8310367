-- The definitions of crate `plandesk`, module by module.
pub mod Met
