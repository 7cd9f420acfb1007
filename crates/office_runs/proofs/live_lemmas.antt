pub mod Beginnings
pub mod Courses
pub mod Finishing
pub mod Lists
pub mod Telling
pub mod Writers
pub mod Written
