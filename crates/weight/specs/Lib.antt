pub mod Weight
pub mod LoadLaws
pub mod Sets
pub mod Display
pub mod Zero
pub mod Ranges
pub mod SetsLaws
pub mod DisplayLaws
