mod SentFrames
mod EntriesTold
pub mod AcceptedEvents
mod Furthest
pub mod Merging
mod Pushing
mod Turns
mod Limits
mod Naming
mod Ending
mod Replaying
mod FollowFirst
mod StandingOffices
mod Ends
mod Finishing
mod AcceptedAlone
mod FinishedAt
mod SentFromAll
mod WorldRecords
