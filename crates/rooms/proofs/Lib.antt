-- The laws of crate `rooms`, module by module.
pub mod Words
pub mod Right
