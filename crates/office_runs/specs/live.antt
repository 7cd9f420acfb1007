pub mod Courses
pub mod refinement
