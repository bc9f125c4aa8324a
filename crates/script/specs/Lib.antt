pub mod Text
pub mod Commands
pub mod Words
pub mod Play
pub mod Example
pub mod Claims
