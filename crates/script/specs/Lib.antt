pub mod Words
pub mod Numbers
pub mod Bytes
pub mod Table
pub mod Lines
pub mod LineLaws
