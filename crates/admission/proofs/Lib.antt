-- The laws of crate `admission`, module by module.
pub mod Asking
pub mod Suits
pub mod Answer
pub mod Arrays
pub mod Rooms
pub mod Choosing
pub mod Listed
pub mod Given
pub mod OneFlow
pub mod Meaning
pub mod Beside
pub mod Over
pub mod OnTop
pub mod BesideMeans
pub mod Laden
pub mod Desk
