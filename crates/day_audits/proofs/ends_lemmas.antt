pub mod NextPlans
pub mod Offices
pub mod FileSessions
