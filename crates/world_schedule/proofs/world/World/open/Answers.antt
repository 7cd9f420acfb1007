use Rattle.std.proofs.Common.{[], sym, subst}
use Rattle.std.proofs.lemmas.List.Elements.{All-nil}
use Rattle.world_schedule.specs.refinement.WorldOfCode.{frames_in, IsWorld, IsTold, AreTold}
use Rattle.world_schedule.proofs.EventSteps.{opens}
use Rattle.world_schedule.proofs.world.World.open.Goals as goal

pub invariant_of-result : goal.invariant_of-result
invariant_of-result c =
    let plan = c.args.plan in
    let sites = c.in_ok-offices.offices.items in (
      subst (λ l. IsWorld plan sites (frames_in plan sites l) c.new-2.result.items) (sym c.new.ensures.items) (subst (IsWorld plan sites []) (sym c.new-2.ensures.items) (opens plan sites c.offices.ensures.accepted c.in_ok-offices.ensures)),
      subst (AreTold plan sites) (sym c.new.ensures.items) (All-nil (IsTold plan sites)),
    )
