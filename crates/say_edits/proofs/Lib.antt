-- The laws of crate `say_edits`, module by module.
pub mod Example
