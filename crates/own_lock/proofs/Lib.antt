mod Prefixes
mod TaggedEntries
mod Views
mod StepsKeepRule
mod Dealing
mod PassCalls
mod WaitingTags
