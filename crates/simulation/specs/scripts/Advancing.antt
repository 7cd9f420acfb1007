-- What an office does that is left to itself: the rules that come next, one after the other.
use Rattle.std.specs.Prelude.{◌≡◌, ℕ, ◌<◌, ◌≤◌, List, length, map, set, None, Some, Result, Ok, Err}
use Rattle.office_journal.specs.declared.event.Event.TheVariants as event
use Rattle.office_journal.specs.declared.event.Entry.{Entry}
use Rattle.office_journal.specs.declared.rule.Rule.{Rule}
use Rattle.office_journal.specs.declared.reply.Reply.TheVariants.{Done}
use Rattle.site_core.specs.RulesInTurn.{extended, next_at, AreNext}
use Rattle.frame_world.specs.declared.event.WorldEvent.TheVariants as happening
use Rattle.frame_world.specs.declared.refusal.WorldRefusal.{WorldRefusal}
use Rattle.frame_world.specs.Worlds.{World, site_at, happens}
use Rattle.frame_world.specs.Worlds as worlds
use Rattle.frame_world.specs.Headline.{IsReached}
use Rattle.simulation.specs.declared.scripts.said.Said.{Said}
use Rattle.simulation.specs.declared.scripts.said.Said.TheVariants.{Replied, Rules, Settled, Open}
use Rattle.simulation.specs.scripts.Script as scripts
use Rattle.simulation.specs.scripts.Runs.{Told, does}

-- the entries of rules that a world has done
abbrev pub entries_of : List Rule → List Entry
entries_of = map (λ r. record { tag = 0; event = event.Do r; reply = Done })

-- so many are told done, all that were asked for, or no rule is next any more; or the next one is refused so
abbrev pub Ends : ℕ → ℕ → ℕ → Result Said WorldRefusal → World → Type 0
Ends a most done (Ok (Rules n)) w = (n ≡ done) × (n ≤ most) × (n < most → next_at (site_at w a) ≡ None)
Ends a most done (Ok (Replied r)) w = ⊥
Ends a most done (Ok (Settled n)) w = ⊥
Ends a most done (Ok (Open n)) w = ⊥
Ends a most done (Err e) w = (done < most) × (r : Rule) × (next_at (site_at w a) ≡ Some r) × ((happens w (happening.Do a r)).0 ≡ Err e)

-- The office's journal grows by rules, of which each is the next one there; they are all that happens, and no other journal
-- grows and no frame is sent.
pub record Advances (w : World) (a most : ℕ) (told : Told) : Type 0 where
  pub rules : List Rule
  pub next : AreNext 0 (site_at w a) (entries_of rules)
  pub happened : told.1 ≡ worlds.run_of w (map (happening.Do a) rules)
  pub sites : told.1.sites ≡ set w.sites a (extended (site_at w a) (entries_of rules))
  pub frames : told.1.frames ≡ w.frames
  pub ends : Ends a most (length rules) told.0 told.1

-- an office of the plan advances so, in each world that a list of events leads to
abbrev pub OfficesAdvanceByTheirNextRules : Type 0
OfficesAdvanceByTheirNextRules = (w : World) (a most : ℕ) → IsReached w → a < length w.plan.offices → Advances w a most (does w (scripts.Advances a most))
