-- The definitions of crate `promises`, module by module.
pub mod Leaves
pub mod Untouched
pub mod Top
pub mod Rules
pub mod Numbered
pub mod Handheld
pub mod Searched
pub mod Finder
