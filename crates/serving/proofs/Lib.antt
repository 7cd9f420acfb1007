mod Answering
mod Hearing
mod Rounding
mod Untold
mod Whole
mod AllRounds
mod answers_lemmas
