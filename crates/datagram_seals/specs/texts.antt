pub mod SecretText
pub mod SecretLaws
pub mod refinement
