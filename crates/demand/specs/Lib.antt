pub mod Events
pub mod Demand
pub mod MachineLaws
pub mod Recovery
pub mod Clear
