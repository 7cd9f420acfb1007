-- What doing the rules that come next leaves, and what it answers.
use Rattle.std.specs.Prelude.{◌≡◌, ℕ, ◌<◌, ◌≤◌, List, length, None, Some, Result, Ok, Err}
use Rattle.office_journal.specs.declared.event.Event.TheVariants.{Do}
use Rattle.office_journal.specs.declared.event.Entry.{Entry}
use Rattle.office_journal.specs.declared.rule.Rule.{Rule}
use Rattle.site_core.specs.Journals.{Site, Steps, LacksRoom}
use Rattle.site_core.specs.RulesInTurn.{extended, next_at, AreNext}
use Rattle.locked_office.specs.declared.advance.Stopped.{Stopped}

abbrev pub done_of : Result ℕ Stopped → ℕ
done_of (Ok n) = n
done_of (Err stopped) = stopped.done

-- all were done, or no rule was next any more; or the rule that was next is refused here, for want of room
abbrev pub Ends : ℕ → ℕ → Result ℕ Stopped → Site → Type 0
Ends tag most (Ok n) s = (n ≤ most) × (n < most → next_at s ≡ None)
Ends tag most (Err stopped) s = (stopped.done < most) × LacksRoom s stopped.refusal × ((r : Rule) × (next_at s ≡ Some r) × Steps s tag (Do r) (Err stopped.refusal) s)

-- as many entries as the answer tells were added beside each other, each the rule that was next at its point
pub record Advances (tag most : ℕ) (result : Result ℕ Stopped) (s s' : Site) : Type 0 where
  pub done : List Entry
  pub next : AreNext tag s done
  pub added : s' ≡ extended s done
  pub count : length done ≡ done_of result
  pub ends : Ends tag most result s'
