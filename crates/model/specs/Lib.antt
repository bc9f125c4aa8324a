pub mod State
pub mod Starts
pub mod Shows
pub mod Reads
