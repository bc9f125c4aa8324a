pub mod Play
pub mod Examples
