pub mod Beginnings
pub mod Dealing
pub mod Ends
pub mod Telling
pub mod Writers
pub mod live_lemmas
