pub mod Rounds
mod remarks_lemmas
