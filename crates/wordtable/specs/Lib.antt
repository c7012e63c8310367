-- The definitions of crate `wordtable`, module by module.
pub mod Tally
pub mod Plan
pub mod Check
pub mod Forms
pub mod Given
