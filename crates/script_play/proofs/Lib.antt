pub mod Figures
pub mod LinePlays
pub mod RunKept
pub mod InputPlays
