pub mod Images
pub mod Claims
