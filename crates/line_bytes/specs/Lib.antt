pub mod Writes
pub mod Reads
