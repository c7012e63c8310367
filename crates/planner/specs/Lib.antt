-- The definitions of crate `planner`, module by module.
pub mod Plan
pub mod Loop
pub mod Given
