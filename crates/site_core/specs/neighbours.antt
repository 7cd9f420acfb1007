pub mod Pairs
pub mod PairLaws
pub mod HeldLaws
pub mod refinement
