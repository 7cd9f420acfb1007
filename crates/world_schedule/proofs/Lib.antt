mod FinishedSessions
mod SiteSteps
mod Asking
mod WorldSteps
mod EventSteps
mod Runs
mod SentEntries
mod Records
mod Orders
mod Finishing
mod BottlesOnTheWay
mod BottleValues
mod Headline
mod LinkPeers
mod RestingOffices
mod NextSteps
pub mod reports_lemmas
