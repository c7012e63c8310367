-- The definitions of crate `wordturns`, module by module.
pub mod Turn
