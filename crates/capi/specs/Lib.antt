pub mod Capi
pub mod Calls
pub mod CapiLaws
pub mod CallLaws
pub mod TransactionLaws
pub mod RoundLaws
