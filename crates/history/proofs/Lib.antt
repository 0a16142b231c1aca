pub mod FedLists
pub mod Calls
pub mod LedgerLaws
