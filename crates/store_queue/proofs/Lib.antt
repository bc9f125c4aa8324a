pub mod Forwarded
