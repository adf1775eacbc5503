pub mod Reply
pub mod Push
pub mod PushLaws
pub mod ApartLaws
pub mod WordLaws
pub mod PutLaws
pub mod Read
pub mod Worked
