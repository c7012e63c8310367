-- The laws of crate `planner`, module by module.
pub mod Marked
pub mod Cells
pub mod Alike
pub mod MaskLaws
pub mod Answer
pub mod Given
pub mod Meaning
pub mod Before
