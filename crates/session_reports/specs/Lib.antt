pub mod Names
pub mod Report
pub mod json
pub mod form
