-- The laws of crate `say_flows`, module by module.
pub mod Flows
pub mod Outside
pub mod Example
