pub mod Sending
