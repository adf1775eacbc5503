pub mod Effects
pub mod Keeps
pub mod Bands
pub mod ReasonLaws
