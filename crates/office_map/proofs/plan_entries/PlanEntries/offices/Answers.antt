use Rattle.office_map.proofs.plan_entries.PlanEntries.offices.Goals as goal

pub returns-clause-consistent : goal.returns-clause-consistent
returns-clause-consistent c = rw (← c.self.view_is) c.self.invariant.0
