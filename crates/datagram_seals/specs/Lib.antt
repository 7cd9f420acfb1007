pub mod frames
pub mod wires
pub mod sockets
pub mod texts
