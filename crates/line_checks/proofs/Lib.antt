pub mod Chunks
pub mod Figures
pub mod SlotTests
