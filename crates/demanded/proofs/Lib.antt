-- The laws of crate `demanded`, module by module.
pub mod Numbers
pub mod Names
pub mod Demand2
pub mod Demand3
pub mod Own
pub mod Spare
