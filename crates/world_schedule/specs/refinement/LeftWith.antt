-- What events leave, with the frames that they send.
use Rattle.std.specs.Prelude.{◌≡◌, ℕ, List, map, All}
use Rattle.frame_codec.specs.Frame.{Fields, IsFrame}
use Rattle.office_map.specs.PlanValue.{PlanValue}
use Rattle.site_core.specs.Journals.{Site}
use Rattle.frame_world.specs.declared.event.WorldEvent.{WorldEvent}
use Rattle.frame_world.specs.Worlds.{Finished, opening, run_of}

pub record IsLeftWith (plan : PlanValue) (events : List WorldEvent) (sites : List Site) (frames : List Fields) (order : List ℕ) : Type 0 where
  pub leaves : (run_of (opening plan) events).sites ≡ sites
  pub sends : (run_of (opening plan) events).frames ≡ frames
  pub fit : All IsFrame frames
  pub finishes : map (λ (f : Finished). f.outcome.office) (run_of (opening plan) events).finished ≡ order
