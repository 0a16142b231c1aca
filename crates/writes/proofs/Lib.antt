pub mod Bytes
pub mod Marks
pub mod Counting
pub mod ListStored
