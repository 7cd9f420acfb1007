-- Strict serializability: the serial order, which is the finishing order, keeps to the order in time.
use Rattle.std.specs.Prelude.{◌≡◌, ◌≤◌, ℕ, List, ◌∷◌, ◌++◌, length, slice_get, Some, Ok}
use Rattle.session_meaning.specs.ProgramValue.{ProgramValue}
use Rattle.office_journal.specs.declared.reply.Reply.TheVariants as reply
use Rattle.frame_world.specs.declared.event.WorldEvent.{WorldEvent}
use Rattle.frame_world.specs.declared.event.WorldEvent.TheVariants as happening
use Rattle.frame_world.specs.Worlds.{World, Finished, happens, run_of}

-- the second world's finishing order begins with the first's
abbrev pub Continues : World → World → Type 0
Continues w w' = (more : List Finished) × (w'.finished ≡ w.finished ++ more)

-- behind the first n of a finishing order, if anywhere, stands the session that an office answered this ticket
abbrev pub StandsBehind : ℕ → ℕ → ℕ → List Finished → Type 0
StandsBehind n a t fs = (k : ℕ) (f : Finished) → slice_get fs k ≡ Some f → f.outcome.office ≡ a → f.outcome.ticket ≡ t → n ≤ k

-- Whatever happens from here on, the finishing order begins with what has finished here; and a session that is submitted
-- here stands behind that, if it finishes.
pub record IsStrict (w : World) : Type 0 where
  pub continues : (later : List WorldEvent) → Continues w (run_of w later)
  pub behind : (a t : ℕ) (p : ProgramValue) (later : List WorldEvent) → (happens w (happening.Submit a p)).0 ≡ Ok (reply.Ticket t) →
      StandsBehind (length w.finished) a t (run_of w (happening.Submit a p ∷ later)).finished
