pub mod Steps
pub mod TextLaws
