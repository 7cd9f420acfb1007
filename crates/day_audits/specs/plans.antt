pub mod WrittenPlans
pub mod NextPlans
pub mod LeftValues
pub mod refinement
