-- The definitions of crate `admitting`, module by module.
pub mod Flows
pub mod Recurrence
pub mod Best
