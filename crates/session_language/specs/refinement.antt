pub mod ResolvedStatements
pub mod ReaderRefinement
pub mod PlacedTokens
pub mod PostfixBuilder
pub mod UniqueProofs
pub mod KeptDraft
pub mod PartsRefinement
