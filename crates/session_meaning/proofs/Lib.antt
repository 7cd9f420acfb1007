mod PostfixSplit
pub mod KeptTexts
mod EndingLaws
mod ValuesFit
mod WorkedExamples
mod StepsAreCounted
mod working_copies
pub mod Refilled
