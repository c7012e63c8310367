-- The laws of crate `wordtable`, module by module.
pub mod Counts
pub mod Runs
pub mod Judged
pub mod Ways
pub mod Same
pub mod Plain
pub mod Given
