-- The definitions of crate `reachpairs`, module by module.
pub mod Pairs
pub mod Reasons
pub mod Loop
