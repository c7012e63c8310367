-- The laws of crate `wordturns`, module by module.
pub mod Turn
