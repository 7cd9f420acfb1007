pub mod frames_lemmas
mod wires_lemmas
pub mod texts_lemmas
