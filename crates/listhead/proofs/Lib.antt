-- The laws of crate `listhead`, module by module.
pub mod Heading
pub mod Printed
