use Rattle.session_language.proofs.canonical.RoundTrip as again
use Rattle.session_language.proofs.laws.reads_back.Goals as goal

pub returns : goal.returns
returns c = again.reads_back c.args.plan.now c.offices.ensures.consistent c.args.program.now c.tree.ensures.well_formed c.requires
