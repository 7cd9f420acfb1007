-- Every run ends, whichever rules are done and whichever frames come, in whatever order.
use Rattle.std.specs.Prelude.{◌≡◌, ℕ, ◌+◌, ◌≤◌, Bool, true, false, List, [], ◌∷◌, map, count_by, Result, Ok}
use Rattle.std.specs.List.{range_with_len}
use Rattle.bottle_values.specs.Lists.{num}
use Rattle.office_journal.specs.declared.reply.Reply.{Reply}
use Rattle.office_journal.specs.declared.reply.Reply.TheVariants as reply
use Rattle.frame_world.specs.declared.event.WorldEvent.{WorldEvent}
use Rattle.frame_world.specs.declared.event.WorldEvent.TheVariants as happening
use Rattle.frame_world.specs.declared.refusal.WorldRefusal.{WorldRefusal}
use Rattle.frame_world.specs.Worlds.{World, happens, run_of, replies_of}
use Rattle.frame_world.specs.Headline.{Always}
use Rattle.frame_world.specs.Standstill.{AllAreFinished}
use Rattle.frame_world.specs.WorkLeft.{session_work, work_left}

-- what goes on: a rule is done, a session is withdrawn, or a message is taken
abbrev pub is_step : Result Reply WorldRefusal → Bool
is_step (Ok reply.Done) = true
is_step (Ok reply.Taken) = true
is_step _ = false

-- how many steps these answers tell
abbrev pub steps_in : List (Result Reply WorldRefusal) → ℕ
steps_in = count_by is_step

-- what a session adds that is accepted
abbrev pub added_by : ℕ → Result Reply WorldRefusal → ℕ
added_by n (Ok (reply.Ticket t)) = n
added_by n _ = 0

abbrev pub added : World → WorldEvent → ℕ
added w (happening.Submit a p) = added_by (session_work w.plan a p) (happens w (happening.Submit a p)).0
added w _ = 0

abbrev pub added_in : World → List WorldEvent → ℕ
added_in w [] = 0
added_in w (e ∷ es) = added w e + added_in (happens w e).1 es

-- ---- claims

-- each step lowers what is left, and nothing but a submitted session raises it
abbrev pub StepsUseUpWork : World → Type 0
StepsUseUpWork w = (e : WorldEvent) → num (is_step (happens w e).0) + work_left (happens w e).1 ≤ work_left w + added w e

-- so any events make at most as many steps as are left before them, and as the sessions add that are submitted among them
abbrev pub RunsEnd : World → Type 0
RunsEnd w = (events : List WorldEvent) → steps_in (replies_of w events) + work_left (run_of w events) ≤ work_left w + added_in w events

-- from every consistent plan, in every world
abbrev pub EveryRunEnds : Type 0
EveryRunEnds = Always RunsEnd

-- ---- who goes on comes to the end

-- the world after the first n of endless events
abbrev pub after : World → (ℕ → WorldEvent) → ℕ → World
after w events n = run_of w (map events (range_with_len 0 n))

abbrev pub is_submit : WorldEvent → Bool
is_submit (happening.Submit a p) = true
is_submit _ = false

-- sooner or later there is a step, as long as a session is left
abbrev pub GoesOn : World → (ℕ → WorldEvent) → Type 0
GoesOn w events = (n : ℕ) → (AllAreFinished (after w events n) → ⊥) → (m : ℕ) × (n ≤ m) × (is_step (happens (after w events m) (events m)).0 ≡ true)

-- whoever goes on and submits nothing more comes to a world without a session that is current or waits
abbrev pub WhoGoesOnFinishes : World → Type 0
WhoGoesOnFinishes w = (events : ℕ → WorldEvent) → ((n : ℕ) → is_submit (events n) ≡ false) → GoesOn w events → (n : ℕ) × AllAreFinished (after w events n)
