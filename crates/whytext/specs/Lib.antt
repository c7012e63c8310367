-- The definitions of crate `whytext`, module by module.
pub mod Text
