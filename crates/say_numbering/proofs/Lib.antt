-- The laws of crate `say_numbering`, module by module.
pub mod Said
pub mod Truth
pub mod Example
