mod Rows
mod json_lemmas
