pub mod Dialect
pub mod File
pub mod Lines
pub mod Origins
pub mod Rows
pub mod Source
