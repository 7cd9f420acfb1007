pub mod SessionsAreOurs
pub mod OfficeLimits
pub mod OfficeValues
pub mod OfficeSteps
pub mod FirstRule
pub mod NoneNext
pub mod SessionsInOrder
pub mod WithdrawnSessions
pub mod OfficeCrosses
pub mod OutcomesStay
mod LegalBeginnings
mod LinksGrow
mod WantOfRoom
mod BytesComing
pub mod neighbours_lemmas
