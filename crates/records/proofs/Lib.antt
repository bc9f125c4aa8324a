pub mod Places
pub mod Sets
pub mod Answers
pub mod Previews
pub mod RecordLoops
