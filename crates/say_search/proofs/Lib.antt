-- The laws of crate `say_search`, module by module.
pub mod Truth
pub mod Example
