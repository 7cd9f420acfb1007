-- What holds of every list of events holds of the world.
use Rattle.std.proofs.Common.{◌≡◌, List, subst}
use Rattle.frame_codec.specs.Frame.{Fields}
use Rattle.office_map.specs.PlanValue.{PlanValue}
use Rattle.site_core.specs.Journals.{Site}
use Rattle.frame_world.specs.declared.event.WorldEvent.{WorldEvent}
use Rattle.frame_world.specs.Worlds.{World, run_of, opening}
use Rattle.frame_world.specs.Headline.{IsReached}
use Rattle.world_schedule.specs.declared.finished.Finished as mark
use Rattle.world_schedule.specs.refinement.WorldOfCode.{world_in, IsWorld}

pub of_reached : (P : World → Type 0) (w : World) → IsReached w → ((events : List WorldEvent) → P (run_of (opening w.plan) events)) → P w
of_reached P w reached h = subst P reached.leads (h reached.events)

pub of_world : (P : World → Type 0) (plan : PlanValue) (sites : List Site) (frames : List Fields) (marks : List mark.Finished) (v : World) → IsWorld plan sites frames marks → world_in plan sites frames marks ≡ v → ((events : List WorldEvent) → P (run_of (opening plan) events)) → P v
of_world P plan sites frames marks v world is h = subst P is (of_reached P (world_in plan sites frames marks) world.reached h)
