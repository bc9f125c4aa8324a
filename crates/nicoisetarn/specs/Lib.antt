pub mod Answers
pub mod Steps
pub mod Batch
pub mod Claims
