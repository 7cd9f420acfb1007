pub mod Masks
pub mod MaskedSteps
pub mod MaskedPlans
pub mod MaskedWorlds
pub mod HonestThings
pub mod HonestValues
pub mod HonestSessions
pub mod HonestEndings
