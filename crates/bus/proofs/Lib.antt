pub mod AtPlaces
pub mod Lists
