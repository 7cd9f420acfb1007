pub mod Cut
pub mod Words
pub mod refinement
