pub mod Reading
pub mod Samples
pub mod RangeLaws
pub mod SampleLaws
