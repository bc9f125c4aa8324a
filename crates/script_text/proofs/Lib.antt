pub mod TryFold
pub mod Scanning
pub mod Writing
