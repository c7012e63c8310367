-- The laws of crate `oneway`, module by module.
pub mod Reading
