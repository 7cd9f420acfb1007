mod audit_lemmas
mod left_lemmas
mod carried_lemmas
mod plans_lemmas
mod ends_lemmas
mod days_lemmas
