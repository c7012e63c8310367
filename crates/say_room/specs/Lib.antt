-- The definitions of crate `say_room`, module by module.
pub mod Lines
pub mod Said
pub mod Means
