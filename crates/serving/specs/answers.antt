pub mod Said
pub mod Answers
pub mod TicketLaws
pub mod refinement
