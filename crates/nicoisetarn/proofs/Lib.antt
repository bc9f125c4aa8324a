pub mod ShownPart
pub mod CallNumbers
pub mod Outcomes
pub mod Batches
pub mod BatchRuns
