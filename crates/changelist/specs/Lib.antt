-- The definitions of crate `changelist`, module by module.
pub mod Sets
