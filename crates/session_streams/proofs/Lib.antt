mod PartsHeard
mod LinesRead
mod TextsHeard
mod FaultsHeard
mod LinesClose
mod requests_lemmas
