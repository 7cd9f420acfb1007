-- What a script's acts do to a world, and what is said of each.
use Rattle.std.specs.Prelude.{ℕ, zero, suc, ◌+◌, nat_lt, if◌then◌else◌, List, [], ◌∷◌, length, Option, None, Some, Result, Ok, Err}
use Rattle.office_journal.specs.declared.rule.Rule.{Rule}
use Rattle.office_journal.specs.declared.reply.Reply.{Reply}
use Rattle.site_core.specs.RuleOrder.{next_rule}
use Rattle.frame_world.specs.declared.event.WorldEvent.TheVariants as happening
use Rattle.frame_world.specs.declared.refusal.WorldRefusal.{WorldRefusal}
use Rattle.frame_world.specs.declared.refusal.WorldRefusal.TheVariants as refusal
use Rattle.frame_world.specs.declared.next_step.NextStep.{NextStep}
use Rattle.frame_world.specs.declared.next_step.NextStep.TheVariants as next
use Rattle.frame_world.specs.Worlds.{World, Answer, office_at, happens}
use Rattle.frame_world.specs.Standstill.{next_step, place_of}
use Rattle.simulation.specs.declared.scripts.said.Said.{Said}
use Rattle.simulation.specs.declared.scripts.said.Said.TheVariants.{Replied, Rules, Settled, Open}
use Rattle.simulation.specs.scripts.Script.{Act, Happens, Advances, Settles}

-- what is said, and the world then
abbrev pub Told : Type 0
Told = Result Said WorldRefusal × World

abbrev pub as_said : Result Reply WorldRefusal → Result Said WorldRefusal
as_said (Ok r) = Ok (Replied r)
as_said (Err e) = Err e

abbrev pub replied : Answer → Told
replied a = (as_said a.0, a.1)

-- a rule that is done goes on, and a refused one ends it
abbrev pub further : (World → Told) → Answer → Told
further go_on (Ok r, w) = go_on w
further go_on (Err e, w) = (Err e, w)

-- where so many rules were done, the next one, if there is one
abbrev pub by_rule : (World → Told) → World → ℕ → ℕ → Option Rule → Told
by_rule go_on w a done None = (Ok (Rules done), w)
by_rule go_on w a done (Some r) = further go_on (happens w (happening.Do a r))

-- the rules that an office does, left to itself: so many were done, and so many more may be
abbrev pub advanced : World → ℕ → ℕ → ℕ → Told
advanced w a done zero = (Ok (Rules done), w)
advanced w a done (suc left) = by_rule (λ v. advanced v a (done + 1) left) w a done (next_rule w.plan a (office_at w a))

-- a frame that was made, the last of all, comes
abbrev pub delivered : Answer → Answer
delivered (Ok r, w) = happens w (happening.Deliver (length w.frames))
delivered (Err e, w) = (Err e, w)

-- what is answered of a step, and the world then: of a message its frame is made, and comes
abbrev pub stepped : World → NextStep → Option Answer
stepped w (next.Rule a r) = Some (happens w (happening.Do a r))
stepped w (next.Message a b number) = Some (delivered (happens w (happening.Send a b (place_of w a b number))))
stepped w next.AllFinished = None

-- where so many steps were done, the next one, if there is one
abbrev pub by_step : (World → Told) → World → ℕ → Option Answer → Told
by_step go_on w done None = (Ok (Settled done), w)
by_step go_on w done (Some x) = further go_on x

-- what is told of so many steps, where no more may be done
abbrev pub at_most : ℕ → NextStep → Said
at_most done (next.Rule a r) = Open done
at_most done (next.Message a b number) = Open done
at_most done next.AllFinished = Settled done

-- the steps that a world does, left to itself: so many were done, and so many more may be
abbrev pub settled : World → ℕ → ℕ → Told
settled w done zero = (Ok (at_most done (next_step w)), w)
settled w done (suc left) = by_step (λ v. settled v (done + 1) left) w done (stepped w (next_step w))

-- what is said of an act, and the world then
abbrev pub does : World → Act → Told
does w (Happens e) = replied (happens w e)
does w (Advances a n) = if nat_lt a (length w.plan.offices) then advanced w a 0 n else (Err refusal.NoOffice, w)
does w (Settles n) = settled w 0 n

-- one act after the other
abbrev pub run_of : World → List Act → World
run_of w [] = w
run_of w (x ∷ xs) = run_of (does w x).1 xs

-- all that is said of acts, one after the other
abbrev pub all_told : World → List Act → List Told
all_told w [] = []
all_told w (x ∷ xs) = does w x ∷ all_told (does w x).1 xs
