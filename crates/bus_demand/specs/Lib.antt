pub mod BusLists
pub mod Places
pub mod HearLaws
pub mod BusDemand
pub mod Finishing
pub mod SettlingLaws
pub mod BusExamples
