pub mod BridgeLaws
pub mod BusTheorem
pub mod FinishingLaws
pub mod UsedLaws
