pub mod AccessChecks
