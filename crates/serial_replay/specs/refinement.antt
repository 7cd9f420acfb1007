pub mod PostfixEvaluation
pub mod WalkRefinement
