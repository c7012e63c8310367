-- The definitions of crate `demanded`, module by module.
pub mod Numbers
pub mod Demands
pub mod Spare
