-- The definitions of crate `say_tally`, module by module.
pub mod Marks
pub mod Said
