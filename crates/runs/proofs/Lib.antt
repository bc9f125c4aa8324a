pub mod Machines
pub mod Values
pub mod Kept
pub mod Refusals
pub mod Numbers
pub mod Dropped
