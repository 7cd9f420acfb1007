pub mod audit
pub mod left
pub mod carried
pub mod plans
pub mod ends
pub mod days
