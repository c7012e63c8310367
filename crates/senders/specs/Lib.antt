-- The definitions of crate `senders`, module by module.
pub mod Read
