pub mod Numbers
pub mod Ranges
pub mod Prices
pub mod Worst
pub mod Dearest
