pub mod ListOrder
pub mod Listing
