pub mod Json
pub mod JsonLaws
