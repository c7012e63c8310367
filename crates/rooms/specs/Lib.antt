-- The definitions of crate `rooms`, module by module.
pub mod Room
