pub mod SampleLaws
pub mod FormLaws
pub mod ReaderLaws
