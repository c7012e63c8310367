-- The laws of crate `search`, module by module.
pub mod Resume
pub mod Taken
pub mod Going
pub mod Gather
pub mod Table
pub mod Call
pub mod Ends
pub mod Answer
pub mod Given
pub mod Meaning
pub mod Right
