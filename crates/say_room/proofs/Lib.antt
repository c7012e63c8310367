-- The laws of crate `say_room`, module by module.
pub mod Truth
pub mod Example
