-- The definitions of crate `inputs`, module by module.
pub mod Files
pub mod Lines
pub mod Said
