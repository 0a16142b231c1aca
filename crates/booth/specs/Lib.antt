pub mod Booth
pub mod BoothLaws
pub mod RoundLaws
