-- Rules that an office does one after the other, each the one that comes next.
use Rattle.std.specs.Prelude.{◌≡◌, ℕ, List, [], ◌∷◌, ◌++◌, Option, Some, Err}
use Rattle.office_journal.specs.declared.event.Event.TheVariants.{Do}
use Rattle.office_journal.specs.declared.event.Entry.{Entry}
use Rattle.office_journal.specs.declared.reply.Refusal.{Refusal}
use Rattle.office_journal.specs.declared.rule.Rule.{Rule}
use Rattle.site_core.specs.RuleOrder.{next_rule}
use Rattle.site_core.specs.Journals.{Site, office_of, Steps, LacksRoom}

-- the office with a longer journal
abbrev pub extended : Site → List Entry → Site
extended s es = record { plan = s.plan; me = s.me; entries = s.entries ++ es }

-- the rule that an office with this journal does next
abbrev pub next_at : Site → Option Rule
next_at s = next_rule s.plan s.me (office_of s)

-- each of these entries has this tag, and does the rule that is next at the end of the journal before it
abbrev pub AreNext : ℕ → Site → List Entry → Type 0
AreNext tag s [] = Unit {0}
AreNext tag s (x ∷ xs) = (r : Rule) × (next_at s ≡ Some r) × (x.event ≡ Do r) × (x.tag ≡ tag) × AreNext tag (extended s (x ∷ [])) xs

-- the rule that comes next is refused for want of room alone
abbrev pub NextIsDoneWhereThereIsRoom : Type 0
NextIsDoneWhereThereIsRoom = (s : Site) (tag : ℕ) (r : Rule) (why : Refusal) (s' : Site) → next_at s ≡ Some r → Steps s tag (Do r) (Err why) s' → LacksRoom s why
