-- The laws of module `searching` of crate `plandesk`, file by file.
pub mod Rising
