-- What a step of a script answers, and the world after it.
use Rattle.std.specs.Prelude.{◌≡◌, Option, None, Some, Result, Err, ◌⊎◌}
use Rattle.office_journal.specs.declared.reply.Reply.{Reply}
use Rattle.office_journal.specs.declared.reply.Refusal.TheVariants as refused
use Rattle.frame_world.specs.declared.refusal.WorldRefusal.{WorldRefusal}
use Rattle.frame_world.specs.declared.refusal.WorldRefusal.TheVariants as refusal
use Rattle.frame_world.specs.Worlds as worlds
use Rattle.frame_world.specs.Worlds.{World}
use Rattle.simulation.specs.declared.scripts.said.Said.{Said}
use Rattle.simulation.specs.scripts.Runs.{Told}

-- that is said, and the world is so; or memory ran out
abbrev pub Says : Told → Result Said WorldRefusal → World → Type 0
Says t said w' = (said ≡ Err (refusal.Office refused.Memory)) ⊎ ((said ≡ t.0) × (w' ≡ t.1))

-- that is answered, and the world is so; or memory ran out
abbrev pub Answered : worlds.Answer → Result Reply WorldRefusal → World → Type 0
Answered x reply w' = (reply ≡ Err (refusal.Office refused.Memory)) ⊎ ((reply ≡ x.0) × (w' ≡ x.1))

-- a step is answered, and where there is none nothing happens
abbrev pub AnswersStep : World → Option worlds.Answer → Option (Result Reply WorldRefusal) → World → Type 0
AnswersStep w None None w' = w' ≡ w
AnswersStep w None (Some reply) w' = ⊥
AnswersStep w (Some x) None w' = ⊥
AnswersStep w (Some x) (Some reply) w' = Answered x reply w'
