pub mod LinesOfWords
pub mod DigitWords
pub mod HexBlocks
pub mod Lanes
pub mod NamesAndNumbers
pub mod RuleWords
