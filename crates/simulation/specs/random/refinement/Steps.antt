-- What a step of a random run comes to.
use Rattle.std.specs.Prelude.{◌≡◌, ◌⊎◌, ◌≤◌, ◌<◌, ◌+◌, ℕ, zero, suc, List, length, Some, true}
use Rattle.session_meaning.specs.ProgramValue.{ProgramValue}
use Rattle.site_core.specs.Journals.{Site}
use Rattle.frame_world.specs.declared.event.WorldEvent.{WorldEvent}
use Rattle.frame_world.specs.Worlds.{World, happens}
use Rattle.simulation.specs.random.Runs.{AreMade, MayHappen, MayPass, Leads, is_step, messages_at}

-- an event that submits nothing, and may happen
pub record Happened (loss : ℕ) (w w' : World) : Type 0 where
  pub event : WorldEvent
  pub step : is_step (Some event) ≡ true
  pub may : MayHappen loss w event
  pub led : w' ≡ (happens w event).1

-- nothing happened, for one of the reasons that there may be; or one such event
abbrev pub Steps : ℕ → World → World → Type 0
Steps loss w w' = (MayPass loss w × (w' ≡ w)) ⊎ Happened loss w w'

-- how many messages wait at an office for those of the lowest numbers, so many
abbrev pub messages_below : Site → ℕ → ℕ
messages_below s zero = 0
messages_below s (suc v) = messages_below s v + messages_at s v

-- one step, while fewer than so many sessions have finished; and else none
abbrev pub GoesOn : ℕ → ℕ → World → World → List ProgramValue → List ProgramValue → Type 0
GoesOn loss all w w' sessions left =
    ((length w.finished < all) × Leads loss 1 w w' sessions left)
    ⊎ ((all ≤ length w.finished) × (w' ≡ w) × (left ≡ sessions))

-- moves led on, of which as many are steps as were to be made so far, or fewer where all of so many sessions have finished
pub record HasCome (loss steps all : ℕ) (w w' : World) (sessions left : List ProgramValue) : Type 0 where
  pub made : ℕ
  pub leads : Leads loss made w w' sessions left
  pub enough : AreMade made steps all w'
