-- What a start on a lent state leaves, and a start with a call after it.
pub mod Starts
