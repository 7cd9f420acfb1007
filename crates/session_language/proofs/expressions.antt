pub mod ParserSound
pub mod ParserComplete
pub mod BuilderRefinesParser
pub mod CounterBounds
pub mod PhraseLoop
