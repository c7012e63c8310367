-- The definitions of crate `say_numbering`, module by module.
pub mod Lines
pub mod Said
pub mod Anew
pub mod Means
