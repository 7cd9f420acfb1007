pub mod Answers
pub mod OneLink
pub mod Links
pub mod WaysBetween
pub mod TablesFollow
pub mod BarsFollow
pub mod Following
pub mod PlacesAndForks
mod SentFrames
mod TimelyCounts
mod OneMessage
mod WhatWaits
mod FewWait
mod NoneEarly
pub mod Sessions
pub mod SerialRun
pub mod SerialSessions
mod RisingTickets
pub mod Tickets
mod work
mod StrictOrder
pub mod HeadlineLaws
mod Standstill
mod StepsTaken
mod FrameBytes
mod hostile_lemmas
