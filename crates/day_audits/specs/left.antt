pub mod Left
pub mod LeftTexts
pub mod refinement
