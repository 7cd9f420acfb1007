pub mod Gathering
pub mod Gathered
pub mod Following
pub mod GatheringLaws
pub mod Findings
pub mod refinement
