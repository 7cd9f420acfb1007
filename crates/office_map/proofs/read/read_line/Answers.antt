use Rattle.office_map.specs.PlanWords.{plan_words}
use Rattle.office_map.specs.refinement.PlanReader.{seen}
use Rattle.office_map.proofs.AcceptedPlans.{admitted_in}
use Rattle.office_map.proofs.read.read_line.Goals as goal

pub declare-requires : goal.declare-requires
declare-requires c = admitted_in c.version.result c.args.tables.now.version (plan_words c.args.line.now) (seen c.in-Some.declaration) c.version.ensures c.in-Some.ensures
