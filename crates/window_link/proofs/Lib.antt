mod Invariant
mod LinksRefineStreams
mod RunsExtended
mod FrameDelivery
mod KeptPlaces
mod KeptFollowing
