pub mod Study
pub mod Stack
pub mod Scratch
pub mod Claims
pub mod Examples
