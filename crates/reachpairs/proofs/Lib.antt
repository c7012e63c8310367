-- The laws of crate `reachpairs`, module by module.
pub mod PairLaws
pub mod PairReasons
pub mod ReadLaws
pub mod Reasons
pub mod RowLaws
pub mod LowestBit
pub mod Rows
pub mod PairTrip
