-- The definitions of crate `putblocks`, module by module.
pub mod Canon
pub mod Loop
