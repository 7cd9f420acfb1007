pub mod SlotUpdates
pub mod PairUpdates
pub mod PairsOpening
pub mod LeastNeighbour
pub mod Taking
