-- The laws of crate `tries`, module by module.
pub mod Lists
pub mod Ends
pub mod Sound
pub mod Whole
pub mod Limit
pub mod Greedy
pub mod Examples
