pub mod Pick
pub mod PickLaws
pub mod Tests
pub mod TestsLaws
pub mod Run
pub mod RunLaws
pub mod Each
pub mod EachLaws
