pub mod Paged
pub mod Memory
pub mod Table
pub mod View
