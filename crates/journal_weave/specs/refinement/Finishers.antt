-- Where sessions finish.
use Rattle.std.specs.Prelude.{ℕ, List, [], ◌∷◌, ◌++◌}
use Rattle.office_journal.specs.declared.rule.Rule.{Rule}
use Rattle.office_journal.specs.declared.rule.Rule.TheVariants as rule
use Rattle.frame_world.specs.declared.event.WorldEvent.{WorldEvent}
use Rattle.frame_world.specs.declared.event.WorldEvent.TheVariants as happening

-- the office that finishes a session by a rule that it does
abbrev pub finishes_by : ℕ → Rule → List ℕ
finishes_by a rule.Finish = a ∷ []
finishes_by a _ = []

-- the office that finishes a session by an event, if it is accepted
abbrev pub finishes_at : WorldEvent → List ℕ
finishes_at (happening.Do a r) = finishes_by a r
finishes_at _ = []

-- those of these events, in order
abbrev pub finishers : List WorldEvent → List ℕ
finishers [] = []
finishers (e ∷ es) = finishes_at e ++ finishers es
