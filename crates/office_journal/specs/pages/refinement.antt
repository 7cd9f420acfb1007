pub mod PackedFrames
pub mod PagesOfCode
