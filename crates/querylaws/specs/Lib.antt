pub mod Lists
pub mod Queries
pub mod Batches
pub mod Listings
pub mod Ranks
