mod scripts_lemmas
mod random_lemmas
