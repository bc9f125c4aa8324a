pub mod Refusal
pub mod SlotTests
