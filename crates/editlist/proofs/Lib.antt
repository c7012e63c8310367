-- The laws of crate `editlist`, module by module.
pub mod Trip
pub mod Accepted
pub mod Example
pub mod Made
