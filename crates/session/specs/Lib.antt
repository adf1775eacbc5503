pub mod Form
pub mod Reader
pub mod Written
pub mod Edges
pub mod WalkLaws
