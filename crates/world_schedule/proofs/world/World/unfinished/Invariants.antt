use Rattle.std.proofs.Common.{◌≡◌, ◌≤◌, ◌*◌, take}
use Rattle.std.specs.List.{sum_by}
use Rattle.site_core.specs.Agenda.{unfinished}
use Rattle.site_core.specs.Journals.{Site, office_of}
use Rattle.world_schedule.proofs.world.World.unfinished.Given as goal

abbrev pub invariant-loop-office : goal.invariant-loop-office
invariant-loop-office l = record {
  sessions : l.unfinished ≡ sum_by (λ (s : Site). unfinished (office_of s).agenda) (take l.office-index l.self.sites);
  bound : l.unfinished ≤ l.office-index * 4294967295;
}
