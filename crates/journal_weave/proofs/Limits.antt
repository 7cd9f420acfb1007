-- What is told by the journals that are given.
use Rattle.std.proofs.Common.{◌≡◌, ℕ, ◌<◌, ◌≤◌, List, [], length, map, get_or, sym, ap, ◌∙◌, arith}
use Rattle.std.proofs.lemmas.List.{get_or-map, get_or_past, length-map}
use Rattle.journal_weave.specs.declared.given.GivenJournal.{GivenJournal}
use Rattle.journal_weave.specs.Given.{entries_in, told_in, lines_in, lines_of}

pub told_at : (journals : List GivenJournal) (a : ℕ) (j : GivenJournal) → a < length journals → j ≡ get_or journals a j → told_in journals a ≡ j.entries.items
told_at journals a j lt is = get_or-map entries_in journals a j [] lt ∙ ap entries_in (sym is)

pub told_past : (journals : List GivenJournal) (a : ℕ) → length journals ≤ a → told_in journals a ≡ []
told_past journals a ge = get_or_past (map entries_in journals) a [] (omega (arith, ge, length-map journals entries_in))

pub lines_at : (journals : List GivenJournal) (a : ℕ) (j : GivenJournal) → a < length journals → j ≡ get_or journals a j → lines_of journals a ≡ lines_in j
lines_at journals a j lt is = get_or-map lines_in journals a j 0 lt ∙ ap lines_in (sym is)

pub lines_past : (journals : List GivenJournal) (a : ℕ) → length journals ≤ a → lines_of journals a ≡ 0
lines_past journals a ge = get_or_past (map lines_in journals) a 0 (omega (arith, ge, length-map journals lines_in))
