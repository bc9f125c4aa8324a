pub mod Padded
pub mod Counted
pub mod Bytes
