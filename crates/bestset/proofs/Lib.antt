-- The laws of crate `bestset`, module by module.
pub mod Demand
pub mod Parts
pub mod Added
pub mod Steps
pub mod Order
pub mod Arrays
pub mod Problem
pub mod Carry
