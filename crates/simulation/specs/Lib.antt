pub mod scripts
pub mod random
