pub mod Leaves
pub mod Calls
pub mod Facts
pub mod Reading
pub mod Checking
pub mod Moves
pub mod Previews
pub mod Accepted
