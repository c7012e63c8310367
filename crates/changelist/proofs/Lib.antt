-- The laws of crate `changelist`, module by module.
pub mod Lists
pub mod Word
