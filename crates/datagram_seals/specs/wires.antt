pub mod SealedWires
