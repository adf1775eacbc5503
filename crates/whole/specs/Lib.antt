pub mod Round
pub mod Sets
pub mod SetsLaws
pub mod Sizes
pub mod Order
pub mod Bits
