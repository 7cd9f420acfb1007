pub mod Saturation
pub mod LengthWithinCost
pub mod PostfixNeeds
pub mod SortedNeeds
pub mod WorkedExamples
pub mod FittingNodes
pub mod TextBytes
