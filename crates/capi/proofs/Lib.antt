pub mod InPlace
pub mod Listed
pub mod FourRecords
