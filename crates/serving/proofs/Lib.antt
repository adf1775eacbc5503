pub mod TurnLaws
pub mod KeepLaws
