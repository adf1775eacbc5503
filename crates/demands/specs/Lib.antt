pub mod Host
pub mod Typed
pub mod Sent
pub mod Words
pub mod History
pub mod Rows
pub mod Runs
