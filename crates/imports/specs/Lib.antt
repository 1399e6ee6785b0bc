pub mod Elf
pub mod Imported
