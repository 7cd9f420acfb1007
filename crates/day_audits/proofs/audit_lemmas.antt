pub mod Gathering
pub mod Given
pub mod Following
pub mod Telling
pub mod RecordedTexts
