-- The definitions of crate `editlist`, module by module.
pub mod Format
pub mod Read
pub mod Made
