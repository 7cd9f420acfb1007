-- A world by what events leave of it.
use Rattle.std.specs.Prelude.{◌≡◌, ℕ, List, map, All}
use Rattle.frame_codec.specs.Frame.{IsFrame}
use Rattle.office_map.specs.PlanValue.{PlanValue}
use Rattle.site_core.specs.Journals.{Site}
use Rattle.frame_world.specs.declared.event.WorldEvent.{WorldEvent}
use Rattle.frame_world.specs.declared.sent.SentAt.{SentAt}
use Rattle.frame_world.specs.Worlds.{Finished, opening, run_of}
use Rattle.frame_world.specs.Sent.{TellsFrames}

-- Events leave these offices, in order of number; they send the frames that these entries tell, one each; and sessions finish at those
-- offices, in order.
pub record IsLeftBy (plan : PlanValue) (events : List WorldEvent) (sites : List Site) (sent : List SentAt) (order : List ℕ) : Type 0 where
  pub leaves : (run_of (opening plan) events).sites ≡ sites
  pub sends : TellsFrames (run_of (opening plan) events) sent
  pub fit : All IsFrame (run_of (opening plan) events).frames
  pub finishes : map (λ (f : Finished). f.outcome.office) (run_of (opening plan) events).finished ≡ order
